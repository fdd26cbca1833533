use Rattle.std.proofs.Common.{rules, ◌≡◌, suc, ◌-◌, ◌<◌, [], length, get_or, subst, sym, ap, ◌∙◌, arith}
use Rattle.std.specs.FinMap.{find}
use Rattle.std.proofs.lemmas.List.{get_or_default}
use Rattle.std.proofs.lemmas.Fn.{always_returns_same}
use Rattle.persistent_maps.specs.Maps.{starts_by}
use Rattle.persistent_maps.proofs.Lookups.{IsPartitionedBy-starts, find-joined, found_by, Rise-block}
use Rattle.persistent_maps.proofs.Parts.{Rise}
use Rattle.persistent_maps.proofs.searches.find_in_chunks.Goals as goal

pub returns-then-past-eq0 : goal.returns-then-past-eq0
returns-then-past-eq0 g c =
    let q = g.P.Probe.sought c.args.probe.now in
    let chunks = c.args.chunks.now in
    let are = c.requires in
    let facts = c.partition_point-past.ensures in
    let at = facts.partitioned (λ b. starts_by g.K.Ord.cmp q b) (always_returns_same _ _ _ (λ a r f called. search rules)) (IsPartitionedBy-starts g.met.K.Ord.total q chunks are.filled are.sorted) in
    sym (find-joined g.met.K.Ord.total q chunks c.partition_point-past.result are.filled are.sorted facts.bound at ∙ ap (found_by g.met.K.Ord.total q chunks) c.if-past-eq0.true)

pub find_in_blocks-requires : goal.find_in_blocks-requires
find_in_blocks-requires g c =
    let chunks = c.args.chunks.now in
    let place = c.partition_point-past.result - 1 in
    let within : place < length chunks = omega (arith, c.if-past-eq0.false, c.partition_point-past.ensures.bound) in
    let chunk = c.index-chunks-past.result in
    let at : chunk ≡ get_or chunks place chunk = search rules in
    record {
      filled = c.as_slice.ensures.filled;
      sorted = subst (Rise g.K.Ord.cmp) (sym (c.as_slice.ensures.pairs ∙ at)) (Rise-block g.met.K.Ord.total chunks place chunk within c.requires.sorted);
    }

pub returns : goal.returns
returns g c =
    let q = g.P.Probe.sought c.args.probe.now in
    let chunks = c.args.chunks.now in
    let are = c.requires in
    let past = c.partition_point-past.result in
    let facts = c.partition_point-past.ensures in
    let at = facts.partitioned (λ b. starts_by g.K.Ord.cmp q b) (always_returns_same _ _ _ (λ a r f called. search rules)) (IsPartitionedBy-starts g.met.K.Ord.total q chunks are.filled are.sorted) in
    let found = find-joined g.met.K.Ord.total q chunks past are.filled are.sorted facts.bound at in
    let next : past ≡ suc (past - 1) = omega (arith, c.if-past-eq0.false) in
    let within : past - 1 < length chunks = omega (arith, next, facts.bound) in
    let chunk = c.index-chunks-past.result in
    let is : chunk ≡ get_or chunks (past - 1) chunk = search rules in
    c.find_in_blocks.ensures ∙ ap (find g.K.Ord.cmp q) (c.as_slice.ensures.pairs ∙ is ∙ get_or_default chunks (past - 1) chunk [] within)
    ∙ sym (found ∙ ap (found_by g.met.K.Ord.total q chunks) next)
