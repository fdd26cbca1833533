-- Lists of pairs whose keys strictly rise: what is found in them, and what a binary search finds.
use Rattle.std.proofs.Common.{◌≡◌, ℕ, zero, suc, ◌+◌, ◌<◌, ◌≤◌, Bool, true, false, cond, ◌&&◌, T, List, [], ◌∷◌, map, length, get_or, Some, None, Result, Ok, Err, IfOk, IfErr, Ordering, Less, Equal, Greater, is_eq, is_lt, inl, inr, refl, sym, ap, subst, ◌∙◌, arith}
use Rattle.std.specs.FinMap.{find, is_sorted}
use Rattle.std.specs.Cmp.{IsTotalOrder}
use Rattle.std.specs.Ordering.{ordering_index, ordering_reverse}
use Rattle.std.specs.List.{AllByRecursion}
use Rattle.std.specs.List.Sorted.{IsStrictlySortedBy, IsNonDecreasingBy, IsBinarySearchResult, IsSearchInRange}
use Rattle.persistent_maps.specs.Places.{IsPlace, IsGap}
use Rattle.std.proofs.lemmas.Bool.{cases_lt}
use Rattle.std.proofs.lemmas.Cmp.{tied_back}
use Rattle.std.proofs.lemmas.List.{get_or-map, length-map}
use Rattle.std.proofs.lemmas.List.Sorted.{searchable_from_sorted}
use Rattle.std.proofs.lemmas.Map.Keys.{Less-from_sorted, sorted_head, sorted_tail}

both : (a b : Bool) → T a → T b → T (a && b)
both true b p q = q
both false b p q = absurd p

left : (a b : Bool) → T (a && b) → T a
left true b p = tt
left false b p = p

right : (a b : Bool) → T (a && b) → T b
right true b p = p
right false b p = absurd p

less : (o : Ordering) → T (is_lt o) → o ≡ Less
less Less p = refl
less Equal p = absurd p
less Greater p = absurd p

module _ {K : Type 0} {R : K → K → Ordering} (o : IsTotalOrder R) where
  pub greater_back : (x y : K) → R x y ≡ Less → R y x ≡ Greater
  greater_back x y e = o.antisymm y x ∙ ap ordering_reverse e

  pub less_back : (x y : K) → R x y ≡ Greater → R y x ≡ Less
  less_back x y e = o.antisymm y x ∙ ap ordering_reverse e

  not_above : (x y : K) → R x y ≡ Less → is_lt (R y x) ≡ false
  not_above x y e = ap is_lt (greater_back x y e)

module _ {K X : Type 0} (R : K → K → Ordering) where
  abbrev keys : List (K × X) → List K
  keys es = map (λ e. e.0) es

  -- whether the key is below each key of the list
  abbrev below : K → List (K × X) → Bool
  below x [] = true
  below x (e ∷ es) = is_lt (R x e.0) && below x es

  below-from : (x : K) (es : List (K × X)) → AllByRecursion (λ y. R x y ≡ Less) (keys es) → T (below x es)
  below-from x [] h = tt
  below-from x (e ∷ es) h = both _ _ (subst (λ o. T (is_lt o)) (sym h.0) tt) (below-from x es h.1)

  from_below : (x : K) (es : List (K × X)) → T (below x es) → AllByRecursion (λ y. R x y ≡ Less) (keys es)
  from_below x [] h = tt
  from_below x (e ∷ es) h = (less _ (left _ _ h), from_below x es (right _ _ h))

  -- the two ways to say that the keys strictly rise
  pub is_sorted-from : (es : List (K × X)) → IsStrictlySortedBy R (keys es) → T (is_sorted R es)
  is_sorted-from [] h = tt
  is_sorted-from (e ∷ es) h = both _ _ (below-from e.0 es (sorted_head R e.0 (keys es) h)) (is_sorted-from es (sorted_tail R e.0 (keys es) h))

  pub sorted_from_test : (es : List (K × X)) → T (is_sorted R es) → IsStrictlySortedBy R (keys es)
  unfolding IsStrictlySortedBy
  sorted_from_test [] h = tt
  sorted_from_test (e ∷ es) h = (from_below e.0 es (left _ _ h), sorted_from_test es (right _ _ h))

  -- an earlier key is less than a later one
  pub key_at-less : (es : List (K × X)) (i j : ℕ) (d : K × X) → IsStrictlySortedBy R (keys es) → i < j → j < length es → R (get_or es i d).0 (get_or es j d).0 ≡ Less
  key_at-less es i j d sorted lt within =
      let at_i = get_or-map (λ (e : K × X). e.0) es i d d.0 (omega arith) in
      let at_j = get_or-map (λ (e : K × X). e.0) es j d d.0 within in
      ap (λ x. R x (get_or es j d).0) (sym at_i) ∙ ap (R (get_or (keys es) i d.0)) (sym at_j)
      ∙ Less-from_sorted R (keys es) i j d.0 sorted lt (omega (arith, length-map es (λ (e : K × X). e.0)))

  -- a key that no pair has is not found
  pub find-absent : (q : K) (es : List (K × X)) → ((k : ℕ) (d : K × X) → k < length es → is_eq (R q (get_or es k d).0) ≡ false) → find R q es ≡ None
  find-absent q [] h = refl
  find-absent q (e ∷ es) h = ap (λ b. cond b (Some e.1) (find R q es)) (h 0 e (omega arith)) ∙ find-absent q es (λ k d lt. h (suc k) d (omega arith))

  module _ (o : IsTotalOrder R) where
    -- the pair whose key ties is found
    pub find_at : (q : K) (es : List (K × X)) (i : ℕ) (d : K × X) → IsStrictlySortedBy R (keys es) → i < length es → R (get_or es i d).0 q ≡ Equal → find R q es ≡ Some (get_or es i d).1
    find_at q [] i d sorted lt tie = absurd (omega arith)
    find_at q (e ∷ es) zero d sorted lt tie = ap (λ r. cond (is_eq r) (Some e.1) (find R q es)) (tied_back o e.0 q tie)
    find_at q (e ∷ es) (suc i) d sorted lt tie =
        let first : R e.0 (get_or es i d).0 ≡ Less = key_at-less (e ∷ es) 0 (suc i) d sorted (omega arith) lt in
        let above : R q e.0 ≡ Greater = sym (o.congr (get_or es i d).0 q e.0 tie) ∙ greater_back o e.0 (get_or es i d).0 first in
        ap (λ r. cond (is_eq r) (Some e.1) (find R q es)) above ∙ find_at q es i d (sorted_tail R e.0 (keys es) sorted) (omega arith) tie

    -- the comparisons with a key rise along the list
    pub comparisons_rise : (q : K) (es : List (K × X)) → IsStrictlySortedBy R (keys es) → IsNonDecreasingBy (λ e. ordering_index (R e.0 q)) es
    comparisons_rise q es sorted = searchable_from_sorted o (λ (e : K × X). e.0) es q (λ k d low high. not_above o _ _ (key_at-less es k (k + 1) d sorted (omega arith) high))

    -- a binary search by key ends at the key, or at the gap for it
    pub gap_from_search : (q : K) (es : List (K × X)) (i : ℕ) → IsStrictlySortedBy R (keys es) → i ≤ length es → IsBinarySearchResult (λ e. R e.0 q) es (Err i) → IsGap R q es i
    gap_from_search q es i sorted within searched =
        let parted = searched (comparisons_rise q es sorted) in
        record {
          in_range = within;
          less_before = λ k d lt. parted.0 k d (omega arith) lt;
          greater_after = λ k d le lt. parted.1 k d le lt;
        }

    pub find_in_gap : (q : K) (es : List (K × X)) (i : ℕ) → IsGap R q es i → find R q es ≡ None
    find_in_gap q es i gap = find-absent q es (λ k d lt. elim (cases_lt k i) [
      | inl before ↦ ap is_eq (greater_back o _ _ (gap.less_before k d before))
      | inr after ↦ ap is_eq (less_back o _ _ (gap.greater_after k d after lt))
    ])

    -- a binary search by key ends at the key, or at the gap for it
    pub searched : (q : K) (es : List (K × X)) (r : Result ℕ ℕ) → IsStrictlySortedBy R (keys es) → IsSearchInRange r (length es) → IsBinarySearchResult (λ e. R e.0 q) es r
        → record { found : IfOk r (IsPlace R q es); absent : IfErr r (IsGap R q es) }
    searched q es (Ok i) sorted within tie = record { found = record { in_range = within; has_key = tie }; absent = tt }
    searched q es (Err i) sorted within parted = record { found = tt; absent = gap_from_search q es i sorted within parted }
