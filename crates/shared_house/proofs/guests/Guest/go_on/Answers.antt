use Rattle.std.proofs.Common.{◌∙◌, sym, subst}
use Rattle.host_connection.specs.Carrying.{AnswersOnce, Carries, Leads}
use Rattle.shared_house.specs.Desks.{shows}
use Rattle.shared_house.specs.Guests.{IsGuestAnswer}
use Rattle.shared_house.specs.Seeing.{Known}
use Rattle.shared_house.proofs.guests.Guest.go_on.Goals as goal

pub returns-clause-leads : goal.returns-clause-leads
returns-clause-leads g c = λ start first so.
    let did = shows g.D.DeskAccess.did g.G.FileAccess.fails in
    subst (λ (l : Known). Leads (IsGuestAnswer did) g.X.Duplex.saw (Unit {0}) g.X.Duplex.waits start first c.go_on-progress.new.duplex.stream l c.go_on-progress.new.self c.go_on-progress.result) (sym c.give_note.ensures)
    (c.go_on-progress.ensures.leads start first
    (subst (λ (l : Known). Carries (IsGuestAnswer did) g.X.Duplex.saw (Unit {0}) start first c.args.duplex.now.stream l c.args.connection.now) (sym c.take_note.ensures) so))

pub returns-clause-asks : goal.returns-clause-asks
returns-clause-asks g c =
    let did = shows g.D.DeskAccess.did g.G.FileAccess.fails in
    subst (λ (l : Known). AnswersOnce (IsGuestAnswer did) l c.give_note.new.note) c.take_note.ensures
    (subst (λ (l : Known). AnswersOnce (IsGuestAnswer did) c.take_note.new.self l) (sym c.give_note.ensures) c.go_on-progress.ensures.asks)

pub returns-clause-later : goal.returns-clause-later
returns-clause-later g c = λ is.
    let left = c.go_on-progress.ensures.later is in
    (left.0, c.give_note.ensures ∙ left.1 ∙ c.take_note.ensures)
