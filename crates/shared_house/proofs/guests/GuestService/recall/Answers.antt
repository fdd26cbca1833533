use Rattle.std.proofs.Common.{List, ℕ, subst}
use Rattle.host_connection.specs.Again.{IsAgain}
use Rattle.shared_house.specs.Desks.{shows}
use Rattle.shared_house.specs.Guests.{IsGuestAnswer}
use Rattle.shared_house.specs.Seeing.{HasAll, Known}
use Rattle.shared_house.proofs.guests.GuestService.recall.Goals as goal

pub returns-in-Some-recall_guest-clause-kept : goal.returns-in-Some-recall_guest-clause-kept
returns-in-Some-recall_guest-clause-kept g c =
    let did = shows g.D.DeskAccess.did g.G.FileAccess.fails in
    let text = c.in-Some-recall_guest.text.value.items in
    let new = c.recall_guest.new.known in
    subst (λ (k : Known). IsAgain (IsGuestAnswer did) k c.args.head.now text new) c.self.view_is
    (subst (λ (h : List ℕ). IsAgain (IsGuestAnswer did) c.self.inside.note h text new) c.in-Some-at.ensures c.in-Some-recall_guest.ensures.kept)

pub returns-in-Some-recall_guest-clause-grows : goal.returns-in-Some-recall_guest-clause-grows
returns-in-Some-recall_guest-clause-grows g c = subst (λ (k : Known). HasAll k c.recall_guest.new.known) c.self.view_is c.in-Some-recall_guest.ensures.grows
