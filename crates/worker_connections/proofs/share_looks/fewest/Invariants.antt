use Rattle.std.proofs.Common.{◌≡◌, drop}
use Rattle.connection_rules.specs.Least.{found_after, least_of}
use Rattle.worker_connections.specs.Shares.{taken_from}
use Rattle.worker_connections.proofs.share_looks.fewest.Given as goal

-- what was found, and then what is left, gives what all give
abbrev pub invariant-looks : goal.invariant-looks
invariant-looks l = found_after l.least (taken_from l.at (drop l.at l.workers)) ≡ least_of (taken_from 0 l.workers)
