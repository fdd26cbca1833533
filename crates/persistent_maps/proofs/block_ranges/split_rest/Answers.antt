use Rattle.std.proofs.Common.{ap, sym, ◌∙◌, length}
use Rattle.persistent_maps.proofs.Filters.{filled_first, filled_rest}
use Rattle.persistent_maps.proofs.block_ranges.split_rest.Goals as goal

pub invariant_of-result : goal.invariant_of-result
invariant_of-result g c = filled_rest c.args.blocks.now c.in-Some.block.now c.in-Some.middle.now c.in-Some.ensures.cases.0 c.requires

pub unreachable-requires : goal.unreachable-requires
unreachable-requires g c =
    filled_first c.args.blocks.now c.in-Some.block.now c.in-Some.middle.now c.in-Some.ensures.cases.0 c.requires
    (sym (ap length c.as_slice.ensures) ∙ c.in-None-split_first.ensures.cases)
