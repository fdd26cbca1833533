use Rattle.std.proofs.Common.{rules}
use Rattle.std.proofs.lemmas.Fn.{always_returns_same}
use Rattle.persistent_maps.proofs.Between.{slice_between}
use Rattle.persistent_maps.proofs.block_ranges.pairs_within.Goals as goal

pub returns : goal.returns
returns g c =
    let span = c.args.span.now in
    let before = g.S.Span.before span in
    let within = g.S.Span.within span in
    let first = c.partition_point-start.ensures in
    let second = c.partition_point-count.ensures in
    let start = first.partitioned (λ e. before e.0) (always_returns_same _ _ _ (λ a r f called. search rules)) in
    let count = second.partitioned (λ e. within e.0) (always_returns_same _ _ _ (λ a r f called. search rules)) in
    slice_between (g.met.S.Span.together span) c.args.pairs.now c.requires _ _ first.bound second.bound start count
