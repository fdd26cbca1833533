use Rattle.std.proofs.Common.{◌≡◌, ◌++◌, option_copied}
use Rattle.std.specs.Vec.Iter.{into_iter_items}
use Rattle.persistent_maps.specs.Edits.{edited_by}
use Rattle.persistent_maps.specs.Merge.{below}
use Rattle.persistent_maps.proofs.merge.merge_block.Given as goal

abbrev pub invariant-loop-pair : goal.invariant-loop-pair
invariant-loop-pair g l = l.merged.items ++ into_iter_items l.pair-iterator ≡ edited_by g.K.Ord.cmp l.fn.block (below g.K.Ord.cmp (option_copied l.fn.limit) l.fn.edits.items)
