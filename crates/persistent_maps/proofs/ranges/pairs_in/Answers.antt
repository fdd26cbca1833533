use Rattle.std.proofs.Common.{rules, ◌+◌, ◌<◌, subst, ap, ◌∙◌, arith}
use Rattle.std.proofs.lemmas.Fn.{always_returns_same}
use Rattle.persistent_maps.specs.Maps.{AreBlocks, starts}
use Rattle.persistent_maps.proofs.Filters.{AreBlocks-front, AreBlocks-rest, IsPartitionedBy-before}
use Rattle.persistent_maps.proofs.ranges.pairs_in.Goals as goal

pub front_within-front-requires-clause-sound : goal.front_within-front-requires-clause-sound
front_within-front-requires-clause-sound g c =
    AreBlocks-front c.split_at.result.0.now c.split_at.result.1.now (subst (AreBlocks g.K.Ord.cmp) c.split_at.ensures.by_index.0 c.requires)

pub front_within-front-requires-clause-before : goal.front_within-front-requires-clause-before
front_within-front-requires-clause-before g c =
    let span = c.args.span.now in
    let facts = c.partition_point-past.ensures in
    let split = c.split_at.ensures in
    let at = facts.partitioned (λ b. starts (g.S.Span.before span) b) (always_returns_same _ _ _ (λ a r f called. search rules)) (IsPartitionedBy-before (g.met.S.Span.together span) c.args.chunks.now c.requires) in
    λ k d lt.
    let small : k < c.partition_point-past.result = omega (arith, lt, split.front_len) in
    ap (starts (g.S.Span.before span)) (split.by_index.1 k d small) ∙ at.0 k d (omega arith) small

pub rest_within-last-requires-clause-sound : goal.rest_within-last-requires-clause-sound
rest_within-last-requires-clause-sound g c =
    AreBlocks-rest c.split_at.result.0.now c.split_at.result.1.now (subst (AreBlocks g.K.Ord.cmp) c.split_at.ensures.by_index.0 c.requires)

pub rest_within-last-requires-clause-late : goal.rest_within-last-requires-clause-late
rest_within-last-requires-clause-late g c =
    let span = c.args.span.now in
    let facts = c.partition_point-past.ensures in
    let split = c.split_at.ensures in
    let at = facts.partitioned (λ b. starts (g.S.Span.before span) b) (always_returns_same _ _ _ (λ a r f called. search rules)) (IsPartitionedBy-before (g.met.S.Span.together span) c.args.chunks.now c.requires) in
    λ k d lt. ap (starts (g.S.Span.before span)) (split.by_index.2 k d) ∙ at.1 (c.partition_point-past.result + k) d (omega arith) (omega (arith, lt, split.back_len))
