use Rattle.std.proofs.Common.{◌≡◌, ◌++◌}
use Rattle.std.specs.Vec.Iter.{into_iter_items}
use Rattle.shared_blocks.specs.Blocks.{joined}
use Rattle.persistent_maps.specs.Maps.{HaveItems}
use Rattle.persistent_maps.proofs.pieces.push_pieces.Given as goal

abbrev pub invariant-loop-item : goal.invariant-loop-item
invariant-loop-item g l = record {
  joined : (joined l.blocks.items ++ l.piece.items) ++ into_iter_items l.item-iterator ≡ joined l.fn.blocks.items ++ l.fn.items.items;
  filled : HaveItems l.blocks.items;
}
