use Rattle.std.proofs.Common.{ℕ, ◌<◌, IsSome}
use Rattle.worker_connections.specs.Places.{place_at}
use Rattle.worker_connections.proofs.places.first_free.Given as goal

-- each place before this one has a connection
abbrev pub invariant-looks : goal.invariant-looks
invariant-looks l = (k : ℕ) → k < l.at → IsSome (place_at l.places k)
