use Rattle.std.proofs.Common.{◌≡◌}
use Rattle.worker_connections.specs.Shares.{taken}
use Rattle.worker_connections.proofs.shares.Shares.new.Given as goal

-- none has taken a place
abbrev pub invariant-workers : goal.invariant-workers
invariant-workers l = taken l.shares.items ≡ 0
