use Rattle.std.proofs.Common.{◌≡◌, ◌++◌}
use Rattle.std.specs.Vec.Iter.{into_iter_items}
use Rattle.persistent_maps.proofs.pieces.with_neighbour.Given as goal

abbrev pub invariant-loop-item : goal.invariant-loop-item
invariant-loop-item g l = l.all.items ++ into_iter_items l.item-iterator ≡ l.initial.all.items ++ l.fn.items.items
