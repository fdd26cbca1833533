use Rattle.std.proofs.Common.{length, ap, sym, ◌∙◌}
use Rattle.persistent_maps.proofs.Filters.{filled_first, filled_rest}
use Rattle.persistent_maps.proofs.ranges.split_rest.Goals as goal

pub invariant_of-result : goal.invariant_of-result
invariant_of-result g c = filled_rest c.args.chunks.now c.in-Some.chunk.now c.in-Some.middle.now c.in-Some.ensures.cases.0 c.requires

pub unreachable-requires : goal.unreachable-requires
unreachable-requires g c =
    filled_first c.args.chunks.now c.in-Some.chunk.now c.in-Some.middle.now c.in-Some.ensures.cases.0 c.requires
    (ap length (sym c.as_slice.ensures.pairs ∙ sym c.all_pairs.ensures ∙ c.in-None-split_first.ensures))
