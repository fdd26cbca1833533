use Rattle.std.proofs.Common.{◌-◌, length}
use Rattle.http_wire.specs.Expectations.{continue_text}
use Rattle.http_wire.proofs.WritesFrom.{FromSoFar}
use Rattle.http_wire.proofs.replies.try_write_interim.Given as goal

abbrev pub invariant-writes : goal.invariant-writes
invariant-writes g l = FromSoFar g.D.Duplex.saw l.fn.duplex l.duplex continue_text l.fn.at l.at

abbrev pub decreases-writes : goal.decreases-writes
decreases-writes g l = length continue_text - l.at
