-- In which block a key is, if it is in any.
use Rattle.std.proofs.Common.{◌≡◌, ℕ, zero, suc, ◌<◌, ◌≤◌, true, false, List, [], ◌∷◌, ◌++◌, length, get_or, Option, None, Ordering, Less, Equal, Greater, is_le, refl, ap, ◌∙◌, arith}
use Rattle.std.specs.FinMap.{find}
use Rattle.std.specs.Cmp.{IsTotalOrder}
use Rattle.std.specs.List.Sorted.{IsPartitionedBy, IsPartitionPoint, IsStrictlySortedBy}
use Rattle.std.specs.Map.{keys_of}
use Rattle.std.proofs.lemmas.Bool.{false≢true}
use Rattle.std.proofs.lemmas.Map.Keys.{sorted_head}
use Rattle.shared_blocks.specs.Blocks.{joined}
use Rattle.persistent_maps.specs.Maps.{AreBlocks, HaveItems, starts_by}
use Rattle.persistent_maps.proofs.Entries.{less_back}
use Rattle.persistent_maps.proofs.Parts.{Rise, Over, Under, Rise-left, Rise-right, Apart-append, Under-first, Over-less, Under-less, Under-tied, find-over, find-past, find-before}

le_cases : (o : Ordering) → is_le o ≡ true → (A : Type 0) → (o ≡ Less → A) → (o ≡ Equal → A) → A
le_cases Less e A less tie = less refl
le_cases Equal e A less tie = tie refl
le_cases Greater e A less tie = cc e

not_le : (o : Ordering) → is_le o ≡ false → o ≡ Greater
not_le Less e = cc e
not_le Equal e = cc e
not_le Greater e = refl

module _ {K X : Type 0} {R : K → K → Ordering} (o : IsTotalOrder R) where
  pub AreBlocks-none : AreBlocks {K = K} {V = X} R []
  unfolding IsStrictlySortedBy
  AreBlocks-none = record { filled = λ k d lt. absurd (omega (arith, lt)); sorted = tt }

  filled_rest : (b : List (K × X)) (blocks : List (List (K × X))) → HaveItems (b ∷ blocks) → HaveItems blocks
  filled_rest b blocks filled k d lt = filled (suc k) d (omega (arith, lt))

  no_items : (b : List (K × X)) (blocks : List (List (K × X))) (A : Type 0) → b ≡ [] → HaveItems (b ∷ blocks) → A
  no_items b blocks A none filled = absurd (filled 0 [] (omega arith) none)

  -- where the first block starts above a key, all keys are above it
  pub Over-joined : (q : K) (blocks : List (List (K × X))) → HaveItems blocks → Rise R (joined blocks) → (0 < length blocks → starts_by R q (get_or blocks 0 []) ≡ false) → Over R q (joined blocks)
  Over-joined q [] filled rise above = tt
  Over-joined q ([] ∷ blocks) filled rise above = no_items [] blocks _ refl filled
  Over-joined q ((e ∷ es) ∷ blocks) filled rise above =
      let less : R q e.0 ≡ Less = less_back o e.0 q (not_le (R e.0 q) (above (omega arith))) in
      (less, Over-less R o q e.0 (es ++ joined blocks) less (sorted_head R e.0 (keys_of (es ++ joined blocks)) rise))

  -- where a later block starts at a key or below it, all keys before that block are below the key
  pub Under-start : (q : K) (b y : List (K × X)) (rest : List (K × X)) → Rise R (b ++ (y ++ rest)) → starts_by R q y ≡ true → Under R b q
  Under-start q b [] rest rise starts = absurd (false≢true starts)
  Under-start q b (y ∷ ys) rest rise starts =
      let under = Under-first R b y (ys ++ rest) (Apart-append R b (y ∷ (ys ++ rest)) rise) in
      le_cases (R y.0 q) starts (Under R b q) (λ less. Under-less R o b y.0 q less under) (λ tie. Under-tied R o b y.0 q tie under)

  -- what is found in the block at a place; nothing before the first
  abbrev pub found_by : K → List (List (K × X)) → ℕ → Option X
  found_by q blocks zero = None
  found_by q blocks (suc i) = find R q (get_or blocks i [])

  abbrev pub IsPast : K → List (List (K × X)) → ℕ → Type 0
  IsPast q blocks p = IsPartitionPoint (λ b. starts_by R q b ≡ true) (λ b. starts_by R q b ≡ false) blocks p

  IsPast-rest : (q : K) (b : List (K × X)) (blocks : List (List (K × X))) (p : ℕ) → IsPast q (b ∷ blocks) (suc p) → IsPast q blocks p
  IsPast-rest q b blocks p at = (λ k d low high. at.0 (suc k) d (omega arith) (omega (arith, high)), λ k d low high. at.1 (suc k) d (omega (arith, low)) (omega (arith, high)))

  -- a key is in the last block that starts at it or below it, or nowhere
  pub find-joined : (q : K) (blocks : List (List (K × X))) (p : ℕ) → HaveItems blocks → Rise R (joined blocks) → p ≤ length blocks → IsPast q blocks p → find R q (joined blocks) ≡ found_by q blocks p
  find-joined q [] zero filled rise bound at = refl
  find-joined q [] (suc p) filled rise bound at = absurd (omega (arith, bound))
  find-joined q (b ∷ blocks) zero filled rise bound at =
      find-over R o q (joined (b ∷ blocks)) (Over-joined q (b ∷ blocks) filled rise (λ lt. at.1 0 [] (omega arith) (omega arith)))
  find-joined q (b ∷ blocks) (suc zero) filled rise bound at =
      find-before R o q b (joined blocks) (Over-joined q blocks (filled_rest b blocks filled) (Rise-right R b (joined blocks) rise) (λ lt. at.1 1 [] (omega arith) (omega (arith, lt))))
  find-joined q (b ∷ []) (suc (suc p)) filled rise bound at = absurd (omega (arith, bound))
  find-joined q (b ∷ (y ∷ blocks)) (suc (suc p)) filled rise bound at =
      let starts : starts_by R q y ≡ true = at.0 1 [] (omega arith) (omega arith) in
      find-past R o q b (joined (y ∷ blocks)) (Under-start q b y (joined blocks) rise starts)
      ∙ find-joined q (y ∷ blocks) (suc p) (filled_rest b (y ∷ blocks) filled) (Rise-right R b (joined (y ∷ blocks)) rise) (omega (arith, bound)) (IsPast-rest q b (y ∷ blocks) (suc p) at)

  -- the pairs of one block rise
  pub Rise-block : (blocks : List (List (K × X))) (i : ℕ) (d : List (K × X)) → i < length blocks → Rise R (joined blocks) → Rise R (get_or blocks i d)
  Rise-block [] i d lt rise = absurd (omega (arith, lt))
  Rise-block (b ∷ blocks) zero d lt rise = Rise-left R b (joined blocks) rise
  Rise-block (b ∷ blocks) (suc i) d lt rise = Rise-block blocks i d (omega (arith, lt)) (Rise-right R b (joined blocks) rise)

  -- what a later block starts by, an earlier one does
  starts_first : (q : K) (b : List (K × X)) (blocks : List (List (K × X))) (i : ℕ) (d : List (K × X)) → HaveItems (b ∷ blocks) → Rise R (joined (b ∷ blocks)) → i < length blocks
      → starts_by R q (get_or blocks i d) ≡ true → starts_by R q b ≡ true
  starts_first q b [] i d filled rise lt starts = absurd (omega (arith, lt))
  starts_first q [] (y ∷ blocks) i d filled rise lt starts = no_items [] (y ∷ blocks) _ refl filled
  starts_first q (e ∷ es) (y ∷ blocks) zero d filled rise lt starts = under_le (R e.0 q) (Under-start q (e ∷ es) y (joined blocks) rise starts).0
    where
      under_le : (r : Ordering) → r ≡ Less → is_le r ≡ true
      under_le r e = ap is_le e
  starts_first q (e ∷ es) (y ∷ blocks) (suc i) d filled rise lt starts =
      let next : starts_by R q y ≡ true = starts_first q y blocks i d (filled_rest (e ∷ es) (y ∷ blocks) filled) (Rise-right R (e ∷ es) (joined (y ∷ blocks)) rise) (omega (arith, lt)) starts in
      ap is_le (Under-start q (e ∷ es) y (joined blocks) rise next).0

  pub IsPartitionedBy-starts : (q : K) (blocks : List (List (K × X))) → HaveItems blocks → Rise R (joined blocks) → IsPartitionedBy (starts_by R q) blocks
  IsPartitionedBy-starts q [] filled rise i j d le lt starts = absurd (omega (arith, lt))
  IsPartitionedBy-starts q (b ∷ blocks) filled rise zero zero d le lt starts = starts
  IsPartitionedBy-starts q (b ∷ blocks) filled rise zero (suc j) d le lt starts = starts_first q b blocks j d filled rise (omega (arith, lt)) starts
  IsPartitionedBy-starts q (b ∷ blocks) filled rise (suc i) zero d le lt starts = absurd (omega (arith, le))
  IsPartitionedBy-starts q (b ∷ blocks) filled rise (suc i) (suc j) d le lt starts =
      IsPartitionedBy-starts q blocks (filled_rest b blocks filled) (Rise-right R b (joined blocks) rise) i j d (omega (arith, le)) (omega (arith, lt)) starts
