use Rattle.std.proofs.Common.{◌≡◌, ◌≤◌, ◌++◌, length}
use Rattle.std.specs.List.{concat}
use Rattle.byte_view.proofs.body_parts.rest_if_few.Given as goal

abbrev pub invariant-parts : goal.invariant-parts
invariant-parts g l =
    (concat (g.P.BodyParts.texts l.fn.parts) ≡ l.rest.items ++ concat (g.P.BodyParts.texts l.parts))
    × (length (g.P.BodyParts.texts l.parts) ≤ length (g.P.BodyParts.texts l.fn.parts))

abbrev pub decreases-parts : goal.decreases-parts
decreases-parts g l = length (g.P.BodyParts.texts l.parts)
