use Rattle.std.proofs.Common.{List, ℕ, subst}
use Rattle.host_replies.specs.Bodies.{answer_of}
use Rattle.shared_house.specs.Desks.{shows}
use Rattle.shared_house.specs.Seeing.{by_front}
use Rattle.shared_house.specs.Shared.{IsSharedAnswer}
use Rattle.shared_house.proofs.answering.SharedHouseService.answer.Goals as goal

pub returns-clause-replied : goal.returns-clause-replied
returns-clause-replied g c =
    subst (λ (body : List ℕ). IsSharedAnswer (shows g.D.DeskAccess.did g.G.FileAccess.fails) by_front c.args.self.now.known c.args.request.now.head body
    (answer_of c.answer-reply.result) c.answer-reply.new.house.known) c.as_slice.ensures.value c.answer-reply.ensures.replied
