use Rattle.std.proofs.Common.{length}
use Rattle.byte_slices.specs.Slices.{joined}
use Rattle.http_wire.proofs.SlicesSent.{SlicesSoFar}
use Rattle.http_wire.proofs.sends.send_slices.Given as goal

abbrev pub invariant-writes : goal.invariant-writes
invariant-writes g l = SlicesSoFar g.D.Duplex.saw l.fn.duplex l.duplex l.fn.sent l.sent (joined l.fn.slices) (joined l.slices) l.fn.slices.first.now l.slices.first.now

abbrev pub decreases-writes : goal.decreases-writes
decreases-writes g l = length (joined l.slices)
