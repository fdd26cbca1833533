use Rattle.std.proofs.Common.{◌≡◌, ◌++◌}
use Rattle.std.specs.Vec.Iter.{into_iter_items}
use Rattle.shared_blocks.specs.Blocks.{joined}
use Rattle.persistent_maps.specs.Maps.{HaveItems}
use Rattle.persistent_maps.proofs.writes.chunks_of.Given as goal

abbrev pub invariant-loop-row : goal.invariant-loop-row
invariant-loop-row g l = record {
  pairs : joined l.chunks.items ++ joined (joined (into_iter_items l.row-iterator)) ≡ joined (joined l.fn.rows.items);
  filled : HaveItems l.chunks.items;
  rows : HaveItems (into_iter_items l.row-iterator);
  blocks : HaveItems (joined (into_iter_items l.row-iterator));
}
