use Rattle.std.proofs.Common.{◌≡◌, ◌≤◌, ◌-◌, ◌++◌, drop, length}
use Rattle.std.specs.List.Sorted.{IsStrictlySortedBy}
use Rattle.std.specs.Map.{keys_of}
use Rattle.shared_blocks.specs.Blocks.{joined}
use Rattle.persistent_maps.specs.Edits.{edited_by}
use Rattle.persistent_maps.specs.Maps.{HaveItems}
use Rattle.persistent_maps.proofs.writes.write_chunks.Given as goal

-- what is written, with what the rest would give, is the whole
abbrev pub invariant-written : goal.invariant-written
invariant-written g l = record {
  within : l.count ≤ length l.chunks;
  edits_rise : IsStrictlySortedBy g.K.Ord.cmp (keys_of l.edits.items);
  filled : HaveItems l.rows.items;
  blocks_filled : HaveItems (joined l.rows.items);
  whole : joined (joined l.rows.items) ++ edited_by g.K.Ord.cmp (joined (drop l.count l.chunks)) l.edits.items
      ≡ joined (joined l.fn.rows.items) ++ edited_by g.K.Ord.cmp (joined l.fn.chunks) l.fn.edits.items;
}

abbrev pub decreases-written : goal.decreases-written
decreases-written g l = length l.chunks - l.count
