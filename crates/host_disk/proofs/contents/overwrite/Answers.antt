use Rattle.std.proofs.Common.{rules, arith, ◌⊎◌, ◌+◌, ◌<◌, ◌≤◌, ℕ, List, ◌∷◌, [], ◌++◌, take, slice_index_or, sym, inl, inr, ⊎_elim, subst, ◌∙◌}
use Rattle.std.proofs.lemmas.Bool.{cases_lt}
use Rattle.std.proofs.lemmas.List.{take_more, take_all}
use Rattle.std.proofs.lemmas.List.Elements.{Contains-push_cases}
use Rattle.host_disk.specs.declared.contents.Stretch.{Stretch}
use Rattle.host_disk.specs.Contents.{IsInside}
use Rattle.host_disk.proofs.contents.overwrite.Goals as goal

-- a place in one stretch more is in that one or in those before
last_or_before : (front : List Stretch) (s : Stretch) (i : ℕ) → IsInside (front ++ s ∷ []) i → ((s.at ≤ i) × (i < s.at + s.len)) ⊎ IsInside front i
last_or_before front s i inside =
    ⊎_elim (λ before. inr (inside.0, before, inside.2, inside.3)) (λ same. inl (subst (λ (t : Stretch). (t.at ≤ i) × (i < t.at + t.len)) (sym same) (inside.2, inside.3))) (Contains-push_cases front s inside.0 inside.1)

-- a place is in a stretch, or before it or behind it
where_is : (s : Stretch) (i : ℕ) → ((s.at ≤ i) × (i < s.at + s.len)) ⊎ ((i < s.at) ⊎ (s.at + s.len ≤ i))
where_is s i =
    ⊎_elim (λ low. inr (inl low)) (λ high. ⊎_elim (λ within. inl (high, within)) (λ past. inr (inr past)) (cases_lt i (s.at + s.len))) (cases_lt i s.at)

pub loop-stretch-preserved : goal.loop-stretch-preserved
loop-stretch-preserved c =
    let s = slice_index_or c.args.stretches.now c.loop-stretch.stretch-index record { at = 0; len = 0 } in
    let front = take c.loop-stretch.stretch-index c.args.stretches.now in (
      λ i outside. search rules,
      λ i low inside.
          let more = take_more c.args.stretches.now c.loop-stretch.stretch-index record { at = 0; len = 0 } c.loop-stretch-test.true in
          ⊎_elim
          (λ here. c.overwrite_stretch.ensures.inside i (omega (arith, low, c.loop-stretch.auto.file)) here.0 here.1)
          (λ elsewhere. c.overwrite_stretch.ensures.outside i elsewhere ∙ ⊎_elim (λ here. absurd (⊎_elim (λ low'. omega (arith, low', here)) (λ high. omega (arith, high, here)) elsewhere)) (λ before. c.loop-stretch.invariant.1 i low before)
          (last_or_before front s i (subst (λ (l : List Stretch). IsInside l i) more inside)))
          (where_is s i),
      λ i low.
          ⊎_elim (λ here. inl (c.overwrite_stretch.ensures.inside i (omega (arith, low, c.loop-stretch.auto.file)) here.0 here.1))
          (λ elsewhere. let same = c.overwrite_stretch.ensures.outside i elsewhere in ⊎_elim (λ byte. inl (same ∙ byte)) (λ old. inr (same ∙ old)) (c.loop-stretch.invariant.2 i low))
          (where_is s i),
    )

pub returns-clause-inside : goal.returns-clause-inside
returns-clause-inside c i low inside =
    c.loop-stretch.invariant.1 i low (subst (λ (l : List Stretch). IsInside l i) (sym (take_all c.loop-stretch.stretch-index c.args.stretches.now c.loop-stretch-test.false)) inside)
