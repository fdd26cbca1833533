use Rattle.std.proofs.Common.{◌≡◌, replicate}
use Rattle.world_node.specs.Nodes.{idle}
use Rattle.world_node.proofs.nodes.readers_of.Given as goal

abbrev pub invariant-loop : goal.invariant-loop
invariant-loop l = l.readers.items ≡ replicate l.counter idle
