use Rattle.std.proofs.Common.{◌≡◌, ◌*◌, ◌≤◌, ◌^◌, take}
use Rattle.worker_connections.specs.Shares.{taken}
use Rattle.worker_connections.proofs.share_looks.taken.Given as goal

-- the sum so far
abbrev pub invariant-sums : goal.invariant-sums
invariant-sums l = record { so_far : l.sum ≡ taken (take l.at l.workers); small : l.sum ≤ l.at * 2 ^ 64 }
