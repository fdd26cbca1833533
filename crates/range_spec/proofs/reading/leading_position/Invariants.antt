use Rattle.std.proofs.Common.{length}
use Rattle.range_spec.specs.Reading.{IsPositionBefore}
use Rattle.range_spec.proofs.reading.leading_position.Given as goal

abbrev pub invariant-loop-value : goal.invariant-loop-value
invariant-loop-value l = IsPositionBefore l.text l.position l.rest

abbrev pub decreases-loop-value : goal.decreases-loop-value
decreases-loop-value l = length l.rest

abbrev pub invariant-loop-digit : goal.invariant-loop-digit
invariant-loop-digit l = IsPositionBefore l.text l.position l.rest

abbrev pub decreases-loop-digit : goal.decreases-loop-digit
decreases-loop-digit l = length l.rest
