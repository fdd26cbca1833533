use Rattle.std.proofs.Common.{refl, subst, sym}
use Rattle.change_log.specs.Logs.{Log}
use Rattle.host_connection.specs.Again.{IsAgain}
use Rattle.shared_house.specs.Desks.{shows}
use Rattle.shared_house.specs.Guests.{IsGuestAnswer}
use Rattle.shared_house.specs.HouseLaws as houses
use Rattle.shared_house.specs.Kept.{IsKept}
use Rattle.shared_house.specs.Seeing.{HasAll, Known}
use Rattle.shared_house.proofs.Fronts.{known_is}
use Rattle.shared_house.proofs.KeptReplies.{again}
use Rattle.shared_house.proofs.guest_answers.recall_guest.Goals as goal

pub returns-in-Some-clause-kept : goal.returns-in-Some-clause-kept
returns-in-Some-clause-kept g c =
    let did = shows g.D.DeskAccess.did g.G.FileAccess.fails in
    let start = c.learn_note.new.self.known in
    let new = c.see.new.self.known in
    let text = c.in-Some.text.value.items in
    let kept : IsKept new.log c.args.kept.now text = subst (λ (l : Log). IsKept l c.args.kept.now text) c.front.ensures c.in-Some.ensures in
    subst (λ (k : Known). IsAgain (IsGuestAnswer did) c.args.known.now c.args.kept.now text k) (sym c.note.ensures)
    (again did c.args.known.now start new c.args.kept.now text kept c.learn_note.ensures.learnt c.see.ensures.kept
    (known_is start.files new new.log refl c.see.ensures.files))

pub returns-in-Some-clause-grows : goal.returns-in-Some-clause-grows
returns-in-Some-clause-grows g c =
    let start = c.learn_note.new.self.known in
    let new = c.see.new.self.known in
    subst (HasAll c.args.known.now) (sym c.note.ensures)
    (houses.has_all c.args.known.now start new c.learn_note.ensures.learnt
    (houses.looks_known start new.log new (c.see.ensures.kept, known_is start.files new new.log refl c.see.ensures.files)))
