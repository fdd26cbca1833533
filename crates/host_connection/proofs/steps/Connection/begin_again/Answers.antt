use Rattle.std.proofs.Common.{List, ℕ, refl, subst, sym, take}
use Rattle.host_connection.specs.Again.{IsAgain}
use Rattle.host_connection.proofs.steps.Connection.begin_again.Goals as goal

pub returns-in-Some-clause-begun : goal.returns-in-Some-clause-begun
returns-in-Some-clause-begun g c =
    let text = c.in-Some.text.value.items in
    let again : IsAgain g.S.Service.answers c.args.service.now (take c.args.count c.args.self.now.wire) text c.recall.new.self =
    subst (λ (b : List ℕ). IsAgain g.S.Service.answers c.args.service.now (take c.args.count b) text c.recall.new.self) c.bytes.ensures.value c.in-Some.ensures.kept in
    ((again, refl, refl), c.skip.ensures, c.begin.ensures)

pub returns-in-None-clause-grows : goal.returns-in-None-clause-grows
returns-in-None-clause-grows g c = subst (λ h. g.S.Service.grows c.args.service.now h) (sym c.in-None.ensures.none) (g.met.S.Service.stays c.args.service.now)
