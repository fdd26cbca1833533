use Rattle.std.proofs.Common.{◌≡◌, ◌++◌, length}
use Rattle.std.specs.List.Sorted.{IsStrictlySortedBy}
use Rattle.std.specs.Map.{keys_of}
use Rattle.shared_blocks.specs.Blocks.{joined}
use Rattle.persistent_maps.specs.Edits.{edited_by}
use Rattle.persistent_maps.specs.Maps.{AreBlocks, HaveItems}
use Rattle.persistent_maps.proofs.block_writes.write_blocks.Given as goal

-- what is written, with what the rest would give, is the whole
abbrev pub invariant-written : goal.invariant-written
invariant-written g l = record {
  left : AreBlocks g.K.Ord.cmp l.left;
  edits_rise : IsStrictlySortedBy g.K.Ord.cmp (keys_of l.edits.items);
  filled : HaveItems l.written.items;
  whole : joined l.written.items ++ edited_by g.K.Ord.cmp (joined l.left) l.edits.items ≡ joined l.fn.written.items ++ edited_by g.K.Ord.cmp (joined l.fn.blocks) l.fn.edits.items;
}

abbrev pub decreases-written : goal.decreases-written
decreases-written g l = length l.left
