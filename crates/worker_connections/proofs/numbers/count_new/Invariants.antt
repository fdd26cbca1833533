use Rattle.std.proofs.Common.{◌≡◌, ◌≤◌, take}
use Rattle.worker_connections.specs.Places.{count_new}
use Rattle.worker_connections.proofs.numbers.count_new.Given as goal

-- so many of those before this place are new
abbrev pub invariant-counts : goal.invariant-counts
invariant-counts l = record { so_far : l.count ≡ count_new l.limits l.now (take l.at l.places); small : l.count ≤ l.at }
