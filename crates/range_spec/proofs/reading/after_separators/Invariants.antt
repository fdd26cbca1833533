use Rattle.std.proofs.Common.{[], length}
use Rattle.range_spec.specs.Reading.{IsReadTo}
use Rattle.range_spec.proofs.reading.after_separators.Given as goal

abbrev pub invariant-loop-after : goal.invariant-loop-after
invariant-loop-after l = IsReadTo l.text [] l.rest

abbrev pub decreases-loop-after : goal.decreases-loop-after
decreases-loop-after l = length l.rest

abbrev pub invariant-loop-byte : goal.invariant-loop-byte
invariant-loop-byte l = IsReadTo l.text [] l.rest

abbrev pub decreases-loop-byte : goal.decreases-loop-byte
decreases-loop-byte l = length l.rest
