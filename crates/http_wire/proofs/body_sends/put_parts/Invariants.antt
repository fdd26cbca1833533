use Rattle.std.proofs.Common.{length}
use Rattle.std.specs.List.{concat}
use Rattle.http_wire.proofs.PartsPut.{PartsSoFar}
use Rattle.http_wire.proofs.body_sends.put_parts.Given as goal

abbrev pub invariant-parts : goal.invariant-parts
invariant-parts g l = PartsSoFar g.D.Duplex.saw l.fn.duplex l.duplex (concat (g.P.BodyParts.texts l.fn.parts)) (concat (g.P.BodyParts.texts l.parts)) l.fn.out l.out

abbrev pub decreases-parts : goal.decreases-parts
decreases-parts g l = length (g.P.BodyParts.texts l.parts)
