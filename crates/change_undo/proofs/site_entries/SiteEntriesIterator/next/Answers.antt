use Rattle.std.proofs.Common.{◌∷◌, ◌<◌, ℕ, List, length, arith, sym, ap, subst, ◌∙◌}
use Rattle.change_undo.specs.SiteIndexes.{LeadsOn, trail}
use Rattle.change_undo.proofs.Chains.{leads-on, trail-next}
use Rattle.change_undo.proofs.site_entries.SiteEntriesIterator.next.Goals as goal

pub invariant_of-self : goal.invariant_of-self
invariant_of-self c =
    let base = c.self.inside.base in
    let earlier = c.self.inside.earlier.now.items in
    subst (LeadsOn base earlier) (sym c.number_before-self-inside.ensures) (leads-on base earlier c.self.inside.next (omega arith) c.self.invariant)

pub returns-clause-steps : goal.returns-clause-steps
returns-clause-steps c =
    let base = c.self.inside.base in
    let earlier = c.self.inside.earlier.now.items in
    sym c.self.view_is ∙ trail-next base earlier c.self.inside.next (omega arith) c.self.invariant
    ∙ ap (λ n. c.self.inside.next ∷ trail base earlier n n) (sym c.number_before-self-inside.ensures)

pub returns-clause-goes : goal.returns-clause-goes
returns-clause-goes c =
    let base = c.self.inside.base in
    let earlier = c.self.inside.earlier.now.items in
    let next = c.number_before-self-inside.result in
    let long = ap (λ (ks : List ℕ). length ks) (returns-clause-steps c) in
    let shorter : length (trail base earlier next next) < length c.args.self.now = omega (arith, long) in
    record { on = λ finite. (tt, tt, shorter); keeps = tt; rests = λ finite. tt }
