use Rattle.http_wire.proofs.AnswerTrails.{answer_told, answer_within}
use Rattle.http_wire.proofs.Trails.{all_told}
use Rattle.http_wire.proofs.answers.read_answer.Goals as goal

pub returns-clause-answer : goal.returns-clause-answer
returns-clause-answer g c =
    let d = g.D.Duplex in
    let ran = c.take_answer.ensures in
    let told = all_told d.saw d.left d.held d.read_fails d.write_fails g.met.D.Duplex.told c.args.duplex.now c.take_answer.new.duplex ran.events ran.steps in
    answer_told d.read_fails c.take_answer.result c.args.limit ran.events (d.left c.args.duplex.now) (d.left c.take_answer.new.duplex) ran.claimed told.gives told.read

pub returns-clause-within : goal.returns-clause-within
returns-clause-within g c = answer_within c.take_answer.result c.args.limit c.take_answer.ensures.events c.take_answer.ensures.claimed
