use Rattle.byte_view.proofs.PartsTaken.{next_fewer, next_taken}
use Rattle.byte_view.proofs.body_parts.next_if.Goals as goal

pub returns-clause-taken : goal.returns-clause-taken
returns-clause-taken g c =
    next_taken g.P.BodyParts.text g.P.BodyParts.texts c.args.parts.now c.next.result c.next.new.self
    (g.met.P.BodyParts.gives c.args.parts.now c.next.result c.next.new.self c.next.ensures.steps)

pub returns-clause-fewer : goal.returns-clause-fewer
returns-clause-fewer g c =
    next_fewer g.P.BodyParts.text g.P.BodyParts.texts c.args.parts.now c.next.result c.next.new.self
    (g.met.P.BodyParts.gives c.args.parts.now c.next.result c.next.new.self c.next.ensures.steps)
