use Rattle.std.proofs.Common.{◌≡◌, replicate}
use Rattle.world_node.specs.Nodes.{start}
use Rattle.host_world.proofs.places.nodes_of.Given as goal

abbrev pub invariant-loop : goal.invariant-loop
invariant-loop l = l.nodes.items ≡ replicate l.counter (start l.cache l.visitors)
