use Rattle.std.proofs.Common.{◌≡◌, ◌-◌, ◌<◌, [], length, get_or, true, filter, subst, sym, ap, ◌∙◌, arith}
use Rattle.std.specs.List.Sorted.{IsStrictlySortedBy}
use Rattle.std.specs.Map.{keys_of}
use Rattle.std.proofs.lemmas.List.Elements.{recursion_from_All}
use Rattle.persistent_maps.specs.Maps.{starts}
use Rattle.persistent_maps.proofs.Filters.{filter-before}
use Rattle.persistent_maps.proofs.Lookups.{Rise-block}
use Rattle.persistent_maps.proofs.ranges.front_within.Goals as goal

pub pairs_of-requires : goal.pairs_of-requires
pairs_of-requires g c =
    let chunks = c.args.chunks.now in
    let item = c.in-Some.ensures.item in
    let within : length chunks - 1 < length chunks = omega (arith, item.3.0) in
    subst (λ es. IsStrictlySortedBy g.K.Ord.cmp (keys_of es)) (sym (item.3.1 [])) (Rise-block g.met.K.Ord.total chunks (length chunks - 1) [] within c.requires.sound.sorted)

pub returns : goal.returns
returns g c =
    let chunks = c.args.chunks.now in
    let span = c.args.span.now in
    let all = recursion_from_All (λ b. starts (g.S.Span.before span) b ≡ true) chunks c.requires.before in
    c.pairs_of.ensures ∙ ap (filter (λ e. g.S.Span.within span e.0)) (c.in-Some.ensures.item.3.1 [])
    ∙ sym (filter-before (g.met.S.Span.together span) chunks c.requires.sound.filled c.requires.sound.sorted all)
