use Rattle.std.proofs.Common.{rules, [], arith}
use Rattle.std.proofs.lemmas.Fn.{always_returns_same}
use Rattle.persistent_maps.specs.Maps.{starts_by}
use Rattle.persistent_maps.proofs.Lookups.{IsPartitionedBy-starts}
use Rattle.persistent_maps.proofs.writes.place_of.Goals as goal

pub returns-clause-past : goal.returns-clause-past
returns-clause-past g c = λ some.
    let key = c.args.key.now in
    let chunks = c.args.chunks.now in
    let facts = c.partition_point-past.ensures in
    let at = facts.partitioned (λ b. starts_by g.K.Ord.cmp key b) (always_returns_same _ _ _ (λ a r f called. search rules)) (IsPartitionedBy-starts g.met.K.Ord.total key chunks c.requires.filled c.requires.sorted) in
    (omega (arith, some, facts.bound, c.saturating_sub.ensures), at.0 c.saturating_sub.result [] (omega arith) (omega (arith, some, c.saturating_sub.ensures)))
