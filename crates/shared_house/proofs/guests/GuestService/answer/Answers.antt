use Rattle.std.proofs.Common.{rules, ◌≡◌, ◌∙◌, List, ℕ, subst, sym}
use Rattle.host_replies.specs.Bodies.{answer_of}
use Rattle.shared_house.specs.Desks.{shows}
use Rattle.shared_house.specs.Guests.{IsGuestAnswer}
use Rattle.shared_house.specs.Seeing.{HasAll, Known}
use Rattle.shared_house.proofs.guests.GuestService.answer.Goals as goal

pub keep-requires : goal.keep-requires
keep-requires g c =
    let request = c.args.request.now in
    let note_is : c.again-note.result ≡ c.args.self.now = c.again-note.ensures ∙ c.self.view_is in
    let body_is : c.as_slice.result.now ≡ request.body.items = search rules in
    let P : Known → List ℕ → Type 0 = λ note body. IsGuestAnswer (shows g.D.DeskAccess.did g.G.FileAccess.fails) note request.head body (answer_of c.answer_guest-reply.result) c.answer_guest-reply.new.note in
    (c.args.self.now, subst (P c.args.self.now) body_is (subst (λ note. P note c.as_slice.result.now) note_is c.answer_guest-reply.ensures.replied))

pub returns-clause-replied : goal.returns-clause-replied
returns-clause-replied g c =
    let request = c.args.request.now in
    let note_is : c.again-note.result ≡ c.args.self.now = c.again-note.ensures ∙ c.self.view_is in
    let body_is : c.as_slice.result.now ≡ request.body.items = search rules in
    let P : Known → List ℕ → Known → Type 0 = λ note body new. IsGuestAnswer (shows g.D.DeskAccess.did g.G.FileAccess.fails) note request.head body (answer_of c.answer_guest-reply.result) new in
    subst (P c.args.self.now request.body.items) (sym c.keep.ensures)
    (subst (λ body. P c.args.self.now body c.answer_guest-reply.new.note) body_is (subst (λ note. P note c.as_slice.result.now c.answer_guest-reply.new.note) note_is c.answer_guest-reply.ensures.replied))

pub returns-clause-grows : goal.returns-clause-grows
returns-clause-grows g c =
    let note_is : c.again-note.result ≡ c.args.self.now = c.again-note.ensures ∙ c.self.view_is in
    subst (HasAll c.args.self.now) (sym c.keep.ensures) (subst (λ (k : Known). HasAll k c.answer_guest-reply.new.note) note_is c.answer_guest-reply.ensures.grows)
