use Rattle.std.proofs.Common.{◌∙◌}
use Rattle.persistent_maps.proofs.WrittenBlocks.{Rise-none}
use Rattle.persistent_maps.proofs.block_writes.merge_rest.Goals as goal

pub edited_block-requires-clause-block_rises : goal.edited_block-requires-clause-block_rises
edited_block-requires-clause-block_rises g c = Rise-none g.met.K.Ord.total c.as_slice.result.now (c.as_slice.ensures.value ∙ c.new-no_pairs.ensures.items)
