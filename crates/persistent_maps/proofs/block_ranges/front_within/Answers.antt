use Rattle.std.proofs.Common.{◌≡◌, ◌-◌, ◌<◌, [], length, get_or, true, filter, subst, sym, ap, ◌∙◌, arith}
use Rattle.std.specs.List.Sorted.{IsStrictlySortedBy}
use Rattle.std.specs.Map.{keys_of}
use Rattle.std.proofs.lemmas.List.Elements.{recursion_from_All}
use Rattle.persistent_maps.specs.Maps.{starts}
use Rattle.persistent_maps.proofs.Filters.{filter-before}
use Rattle.persistent_maps.proofs.Lookups.{Rise-block}
use Rattle.persistent_maps.proofs.block_ranges.front_within.Goals as goal

pub pairs_within-requires : goal.pairs_within-requires
pairs_within-requires g c =
    let blocks = c.args.blocks.now in
    let item = c.in-Some.ensures.item in
    let within : length blocks - 1 < length blocks = omega (arith, item.3.0) in
    let is : c.as_slice.result.now ≡ get_or blocks (length blocks - 1) [] = c.as_slice.ensures ∙ item.3.1 [] in
    subst (λ es. IsStrictlySortedBy g.K.Ord.cmp (keys_of es)) (sym is) (Rise-block g.met.K.Ord.total blocks (length blocks - 1) [] within c.requires.sound.sorted)

pub returns-in-Some : goal.returns-in-Some
returns-in-Some g c =
    let blocks = c.args.blocks.now in
    let span = c.args.span.now in
    let is : c.as_slice.result.now ≡ get_or blocks (length blocks - 1) [] = c.as_slice.ensures ∙ c.in-Some.ensures.item.3.1 [] in
    let all = recursion_from_All (λ b. starts (g.S.Span.before span) b ≡ true) blocks c.requires.before in
    c.pairs_within.ensures ∙ ap (filter (λ e. g.S.Span.within span e.0)) is
    ∙ sym (filter-before (g.met.S.Span.together span) blocks c.requires.sound.filled c.requires.sound.sorted all)
