use Rattle.std.proofs.Common.{rules, ◌≡◌, suc, ◌-◌, ◌<◌, [], length, get_or, subst, sym, ap, ◌∙◌, arith}
use Rattle.std.specs.FinMap.{find}
use Rattle.std.proofs.lemmas.List.{get_or_default}
use Rattle.std.proofs.lemmas.Fn.{always_returns_same}
use Rattle.persistent_maps.specs.Maps.{starts_by}
use Rattle.persistent_maps.proofs.Lookups.{IsPartitionedBy-starts, find-joined, found_by, Rise-block}
use Rattle.persistent_maps.proofs.Parts.{Rise}
use Rattle.persistent_maps.proofs.searches.find_in_blocks.Goals as goal

pub returns-then-past-eq0 : goal.returns-then-past-eq0
returns-then-past-eq0 g c =
    let q = g.P.Probe.sought c.args.probe.now in
    let blocks = c.args.blocks.now in
    let are = c.requires in
    let facts = c.partition_point-past.ensures in
    let at = facts.partitioned (λ b. starts_by g.K.Ord.cmp q b) (always_returns_same _ _ _ (λ a r f called. search rules)) (IsPartitionedBy-starts g.met.K.Ord.total q blocks are.filled are.sorted) in
    sym (find-joined g.met.K.Ord.total q blocks c.partition_point-past.result are.filled are.sorted facts.bound at ∙ ap (found_by g.met.K.Ord.total q blocks) c.if-past-eq0.true)

pub find_in-requires : goal.find_in-requires
find_in-requires g c =
    let blocks = c.args.blocks.now in
    let place = c.partition_point-past.result - 1 in
    let within : place < length blocks = omega (arith, c.if-past-eq0.false, c.partition_point-past.ensures.bound) in
    let block = c.index-blocks-past.result in
    let at : block ≡ get_or blocks place block = search rules in
    subst (Rise g.K.Ord.cmp) (sym (c.as_slice.ensures ∙ at)) (Rise-block g.met.K.Ord.total blocks place block within c.requires.sorted)

pub returns : goal.returns
returns g c =
    let q = g.P.Probe.sought c.args.probe.now in
    let blocks = c.args.blocks.now in
    let are = c.requires in
    let past = c.partition_point-past.result in
    let facts = c.partition_point-past.ensures in
    let at = facts.partitioned (λ b. starts_by g.K.Ord.cmp q b) (always_returns_same _ _ _ (λ a r f called. search rules)) (IsPartitionedBy-starts g.met.K.Ord.total q blocks are.filled are.sorted) in
    let found = find-joined g.met.K.Ord.total q blocks past are.filled are.sorted facts.bound at in
    let next : past ≡ suc (past - 1) = omega (arith, c.if-past-eq0.false) in
    let within : past - 1 < length blocks = omega (arith, next, facts.bound) in
    let block = c.index-blocks-past.result in
    let is : block ≡ get_or blocks (past - 1) block = search rules in
    c.find_in.ensures ∙ ap (find g.K.Ord.cmp q) (c.as_slice.ensures ∙ is ∙ get_or_default blocks (past - 1) block [] within)
    ∙ sym (found ∙ ap (found_by g.met.K.Ord.total q blocks) next)
