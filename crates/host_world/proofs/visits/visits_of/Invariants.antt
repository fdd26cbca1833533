use Rattle.std.proofs.Common.{◌≡◌, List, [], replicate}
use Rattle.world_read.specs.Reads.{ReadState}
use Rattle.host_world.proofs.visits.visits_of.Given as goal

abbrev pub invariant-loop : goal.invariant-loop
invariant-loop l = l.visits.items ≡ replicate l.counter (let none : List ReadState = [] in none)
