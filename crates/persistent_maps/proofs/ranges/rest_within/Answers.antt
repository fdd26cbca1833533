use Rattle.std.proofs.Common.{rules, ◌≡◌, ◌++◌, filter, false, take, subst, sym, ap, ◌∙◌}
use Rattle.std.specs.List.Sorted.{IsStrictlySortedBy}
use Rattle.std.specs.Map.{keys_of}
use Rattle.std.proofs.lemmas.Fn.{always_returns_same}
use Rattle.std.proofs.lemmas.List.Elements.{recursion_from_All}
use Rattle.std.proofs.lemmas.List.{nil_from_length}
use Rattle.shared_blocks.specs.Blocks.{joined}
use Rattle.persistent_maps.specs.Maps.{starts}
use Rattle.persistent_maps.proofs.Filters.{IsPartitionedBy-within, filter-reached, filter-not_reached, reached_parts}
use Rattle.persistent_maps.proofs.ranges.rest_within.Goals as goal

pub pairs_of-requires : goal.pairs_of-requires
pairs_of-requires g c =
    let parts = reached_parts c.args.chunks.now c.in-Some.middle.now c.in-Some.chunk.now c.partition_point-count.result c.requires.sound c.in-Some.ensures.cases.0 in
    parts.last

pub returns-in-Some-clause-pairs : goal.returns-in-Some-clause-pairs
returns-in-Some-clause-pairs g c =
    let chunks = c.args.chunks.now in
    let span = c.args.span.now in
    let together = g.met.S.Span.together span in
    let facts = c.partition_point-count.ensures in
    let late = c.requires.late in
    let at = facts.partitioned (λ b. starts (g.S.Span.within span) b) (always_returns_same _ _ _ (λ a r f called. search rules))
    (IsPartitionedBy-within together chunks c.requires.sound (recursion_from_All (λ b. starts (g.S.Span.before span) b ≡ false) chunks late)) in
    ap (λ l. joined c.in-Some.middle.now ++ l) c.pairs_of.ensures
    ∙ filter-reached together chunks c.in-Some.middle.now c.in-Some.chunk.now c.partition_point-count.result c.requires.sound late at facts.bound c.in-Some.ensures.cases.0

pub returns-in-Some-clause-filled : goal.returns-in-Some-clause-filled
returns-in-Some-clause-filled g c =
    let parts = reached_parts c.args.chunks.now c.in-Some.middle.now c.in-Some.chunk.now c.partition_point-count.result c.requires.sound c.in-Some.ensures.cases.0 in
    parts.middle.filled

pub returns-in-None-clause-pairs : goal.returns-in-None-clause-pairs
returns-in-None-clause-pairs g c =
    let chunks = c.args.chunks.now in
    let span = c.args.span.now in
    let together = g.met.S.Span.together span in
    let facts = c.partition_point-count.ensures in
    let late = c.requires.late in
    let at = facts.partitioned (λ b. starts (g.S.Span.within span) b) (always_returns_same _ _ _ (λ a r f called. search rules))
    (IsPartitionedBy-within together chunks c.requires.sound (recursion_from_All (λ b. starts (g.S.Span.before span) b ≡ false) chunks late)) in
    let none = filter-not_reached together chunks c.partition_point-count.result c.requires.sound late at facts.bound c.in-None.ensures.cases in
    ap (λ l. joined l ++ c.no_range.result) (nil_from_length (take c.partition_point-count.result chunks) c.in-None.ensures.cases) ∙ c.no_range.ensures ∙ sym none
