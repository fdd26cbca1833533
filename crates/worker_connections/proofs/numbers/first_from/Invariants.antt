use Rattle.worker_connections.specs.Places.{HasNone}
use Rattle.worker_connections.proofs.numbers.first_from.Given as goal

-- there is none before this place
abbrev pub invariant-looks : goal.invariant-looks
invariant-looks g l = HasNone (g.N.Numbers.number_of l.numbers) l.places l.from l.at
