use Rattle.std.proofs.Common.{◌≡◌, ◌-◌, length}
use Rattle.host_server.proofs.kept_files.copy_bytes.Given as goal

abbrev pub invariant-loop-at : goal.invariant-loop-at
invariant-loop-at g l = length l.buffer ≡ length l.fn.buffer

abbrev pub decreases-loop-at : goal.decreases-loop-at
decreases-loop-at g l = l.size - l.at
