use Rattle.std.proofs.Common.{◌-◌, ◌≤◌, length, take}
use Rattle.std.specs.Io.KnownBytes.{Appends}
use Rattle.http_wire.proofs.sinks.write_all.Given as goal

abbrev pub invariant-writes : goal.invariant-writes
invariant-writes g l = (l.at ≤ length l.bytes) × Appends (g.W.Sink.held l.fn.sink) (g.W.Sink.held l.sink) (take l.at l.bytes)

abbrev pub decreases-writes : goal.decreases-writes
decreases-writes g l = length l.bytes - l.at
