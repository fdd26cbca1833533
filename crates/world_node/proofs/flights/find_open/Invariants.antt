use Rattle.std.proofs.Common.{◌≡◌, ◌+◌, drop, option_map}
use Rattle.world_node.specs.Nodes.{open_flight}
use Rattle.world_node.proofs.flights.find_open.Given as goal

abbrev pub invariant-loop-number : goal.invariant-loop-number
invariant-loop-number l = open_flight l.key l.flights ≡ option_map (λ n. l.number + n) (open_flight l.key (drop l.number l.flights))
