-- Edits that are past the blocks before a place.
use Rattle.std.proofs.Common.{◌≡◌, ℕ, zero, suc, ◌<◌, true, List, [], ◌∷◌, ◌++◌, length, get_or, take, drop, Option, Ordering, append_assoc, refl, sym, ap, ◌∙◌, arith}
use Rattle.std.specs.Cmp.{IsTotalOrder}
use Rattle.std.specs.List.{AllByRecursion}
use Rattle.std.specs.Map.{keys_of}
use Rattle.std.proofs.lemmas.Map.Keys.{sorted_head}
use Rattle.shared_blocks.specs.Blocks.{joined}
use Rattle.persistent_maps.specs.Edits.{edited_by}
use Rattle.persistent_maps.specs.Maps.{HaveItems, starts_by}
use Rattle.persistent_maps.proofs.Edits.{edited_by-front}
use Rattle.persistent_maps.proofs.Lookups.{IsPartitionedBy-starts, Under-start}
use Rattle.persistent_maps.proofs.Parts.{Rise, Over, Under, Rise-right, Over-less}

module _ {K X : Type 0} {R : K → K → Ordering} (o : IsTotalOrder R) where
  Before-first : (b : List (K × X)) (f : K × Option X) (fs : List (K × Option X)) → Under R b f.0 → Rise R (f ∷ fs) → AllByRecursion (λ e. Over R e.0 (f ∷ fs)) b
  Before-first [] f fs under rise = tt
  Before-first (e ∷ b) f fs under rise = ((under.0, Over-less R o e.0 f.0 fs under.0 (sorted_head R f.0 (keys_of fs) rise)), Before-first b f fs under.1 rise)

  -- where the block at a place starts by the first edit
  pub edited_by-past : (place : ℕ) (blocks : List (List (K × X))) (edits : List (K × Option X)) (d : K × Option X) → HaveItems blocks → Rise R (joined blocks) → Rise R edits
      → (0 < place → place < length blocks) → (0 < place → starts_by R (get_or edits 0 d).0 (get_or blocks place []) ≡ true)
      → edited_by R (joined blocks) edits ≡ joined (take place blocks) ++ edited_by R (joined (drop place blocks)) edits
  edited_by-past zero blocks edits d filled rise edits_rise lt starts = refl
  edited_by-past (suc place) [] edits d filled rise edits_rise lt starts = absurd (omega (arith, lt (omega arith)))
  edited_by-past (suc place) (b ∷ []) edits d filled rise edits_rise lt starts = absurd (omega (arith, lt (omega arith)))
  edited_by-past (suc place) (b ∷ (y ∷ rest)) [] d filled rise edits_rise lt starts =
      ap (λ l. b ++ l) (edited_by-past place (y ∷ rest) [] d (λ k e l. filled (suc k) e (omega (arith, l))) (Rise-right R b (joined (y ∷ rest)) rise) edits_rise (λ some. omega (arith, lt (omega arith))) (λ some. starts (omega arith)))
      ∙ sym (append_assoc b (joined (take place (y ∷ rest))) (joined (drop place (y ∷ rest))))
  edited_by-past (suc place) (b ∷ (y ∷ rest)) (f ∷ fs) d filled rise edits_rise lt starts =
      let filled_rest : HaveItems (y ∷ rest) = λ k e l. filled (suc k) e (omega (arith, l)) in
      let rise_rest = Rise-right R b (joined (y ∷ rest)) rise in
      let here = starts (omega arith) in
      let less : place < length (y ∷ rest) = omega (arith, lt (omega arith)) in
      let next : starts_by R f.0 y ≡ true = IsPartitionedBy-starts o f.0 (y ∷ rest) filled_rest rise_rest 0 place [] (omega arith) less here in
      edited_by-front o b (joined (y ∷ rest)) (f ∷ fs) (Before-first b f fs (Under-start o f.0 b y (joined rest) rise next) edits_rise)
      ∙ ap (λ l. b ++ l) (edited_by-past place (y ∷ rest) (f ∷ fs) d filled_rest rise_rest edits_rise (λ _. less) (λ _. here))
      ∙ sym (append_assoc b (joined (take place (y ∷ rest))) (edited_by R (joined (drop place (y ∷ rest))) (f ∷ fs)))
