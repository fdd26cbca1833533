use Rattle.std.proofs.Common.{subst, sym}
use Rattle.host_replies.specs.Bodies.{answer_of}
use Rattle.shared_house.specs.Desks.{shows}
use Rattle.shared_house.specs.HouseLaws as houses
use Rattle.shared_house.specs.Seeing.{HasAll, Known, by_front}
use Rattle.shared_house.specs.Shared.{IsSharedAnswer}
use Rattle.shared_house.proofs.guest_answers.answer_guest.Goals as goal

pub returns-clause-replied : goal.returns-clause-replied
returns-clause-replied g c = (
  c.learn_note.new.self.known,
  c.learn_note.ensures.learnt,
  subst (λ (known : Known). IsSharedAnswer (shows g.D.DeskAccess.did g.G.FileAccess.fails) by_front c.learn_note.new.self.known c.args.head.now c.args.body.now
      (answer_of c.answer-reply.result) known) (sym c.note.ensures) c.answer-reply.ensures.replied,
)

pub returns-clause-grows : goal.returns-clause-grows
returns-clause-grows g c =
    subst (HasAll c.args.note.now) (sym c.note.ensures)
    (houses.has_all c.args.note.now c.learn_note.new.self.known c.answer-reply.new.house.known c.learn_note.ensures.learnt c.answer-reply.ensures.grows)
