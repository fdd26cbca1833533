use Rattle.std.proofs.Common.{length}
use Rattle.http_wire.specs.Scanning.{ScansTo}
use Rattle.http_wire.proofs.scans.scan.Given as goal

abbrev pub invariant-loop-byte : goal.invariant-loop-byte
invariant-loop-byte l = ScansTo l.fn.state l.bytes l.state l.rest

abbrev pub decreases-loop-byte : goal.decreases-loop-byte
decreases-loop-byte l = length l.rest
