use Rattle.std.proofs.Common.{◌≡◌, drop}
use Rattle.connection_rules.specs.Least.{found_after, least_of}
use Rattle.worker_connections.specs.Places.{numbers_from}
use Rattle.worker_connections.proofs.numbers.least.Given as goal

-- what was found, and then what is left, gives what all give
abbrev pub invariant-looks : goal.invariant-looks
invariant-looks g l =
    let f = g.N.Numbers.number_of l.numbers in
    found_after l.least (numbers_from f l.at (drop l.at l.places)) ≡ least_of (numbers_from f 0 l.places)
