-- Pairs whose keys are side by side: those between two places.
use Rattle.std.proofs.Common.{◌≡◌, ℕ, suc, ◌+◌, ◌-◌, ◌<◌, ◌≤◌, ⊎_elim, Bool, true, false, cond, List, [], ◌∷◌, ◌++◌, length, get_or, take, drop, filter, Ordering, refl, sym, ap, subst, ◌∙◌, arith}
use Rattle.std.specs.List.Sorted.{IsStrictlySortedBy, IsPartitionedBy, IsPartitionPoint}
use Rattle.std.specs.Map.{keys_of}
use Rattle.std.proofs.lemmas.Bool.{cases_lt}
use Rattle.std.proofs.lemmas.List.{get_or-drop, take-append-drop, length-drop, length-take, get_or-take, append-nil, take_rest}
use Rattle.std.proofs.lemmas.List.Elements.{filter-append}
use Rattle.persistent_maps.specs.Spans.{StandTogether}
use Rattle.persistent_maps.proofs.Entries.{key_at-less}

module _ {X : Type 0} (test : X → Bool) where
  filter_none : (xs : List X) → ((k : ℕ) (d : X) → k < length xs → test (get_or xs k d) ≡ false) → filter test xs ≡ []
  filter_none [] h = refl
  filter_none (x ∷ xs) h = ap (λ b. cond b (x ∷ filter test xs) (filter test xs)) (h 0 x (omega arith)) ∙ filter_none xs (λ k d lt. h (suc k) d (omega arith))

  filter_all : (xs : List X) → ((k : ℕ) (d : X) → k < length xs → test (get_or xs k d) ≡ true) → filter test xs ≡ xs
  filter_all [] h = refl
  filter_all (x ∷ xs) h = ap (λ b. cond b (x ∷ filter test xs) (filter test xs)) (h 0 x (omega arith)) ∙ ap (λ l. x ∷ l) (filter_all xs (λ k d lt. h (suc k) d (omega arith)))

module _ {K X : Type 0} {R : K → K → Ordering} {before test : K → Bool} (together : StandTogether R before test) (items : List (K × X)) (sorted : IsStrictlySortedBy R (keys_of items)) where
  abbrev pub is_before : K × X → Bool
  is_before e = before e.0

  abbrev pub is_within : K × X → Bool
  is_within e = test e.0

  pub IsPartitionedBy-before : IsPartitionedBy is_before items
  IsPartitionedBy-before i j d le within is = ⊎_elim
      (λ lt. together.falls (get_or items i d).0 (get_or items j d).0 (key_at-less R items i j d sorted lt within) is)
      (λ ge. let same : j ≡ i = omega arith in subst (λ k. is_before (get_or items k d) ≡ true) same is)
      (cases_lt i j)

  pub IsPartitionedBy-within : (start : ℕ) → IsPartitionPoint (λ e. is_before e ≡ true) (λ e. is_before e ≡ false) items start → IsPartitionedBy is_within (drop start items)
  IsPartitionedBy-within start at i j d le within is =
      let here : (k : ℕ) → get_or (drop start items) k d ≡ get_or items (start + k) d = λ k. get_or-drop start items k d in
      let bound : start + j < length items = omega (arith, length-drop start items) in
      ⊎_elim
      (λ lt. ap is_within (here i)
      ∙ together.first (get_or items (start + i) d).0 (get_or items (start + j) d).0 (key_at-less R items (start + i) (start + j) d sorted (omega arith) bound) (at.1 (start + i) d (omega arith) (omega arith)) (ap is_within (sym (here j)) ∙ is))
      (λ ge. let same : j ≡ i = omega arith in subst (λ k. is_within (get_or (drop start items) k d) ≡ true) same is)
      (cases_lt i j)

  -- the items that pass are those between two places
  filter_between : (start count : ℕ) → start ≤ length items → count ≤ length (drop start items)
      → IsPartitionPoint (λ e. is_before e ≡ true) (λ e. is_before e ≡ false) items start
      → IsPartitionPoint (λ e. is_within e ≡ true) (λ e. is_within e ≡ false) (drop start items) count
      → take count (drop start items) ≡ filter is_within items
  filter_between start count low high at within_at =
      let rest = drop start items in
      let front : filter is_within (take start items) ≡ [] = filter_none is_within (take start items) (λ k d lt.
      let small : k < start = omega (arith, length-take start items) in
      ap is_within (get_or-take start items k d small) ∙ together.apart (get_or items k d).0 (at.0 k d (omega arith) small)) in
      let middle : filter is_within (take count rest) ≡ take count rest = filter_all is_within (take count rest) (λ k d lt.
      let small : k < count = omega (arith, length-take count rest) in
      ap is_within (get_or-take count rest k d small) ∙ within_at.0 k d (omega arith) small) in
      let after : filter is_within (drop count rest) ≡ [] = filter_none is_within (drop count rest) (λ k d lt.
      ap is_within (get_or-drop count rest k d) ∙ within_at.1 (count + k) d (omega arith) (omega (arith, length-drop count rest))) in
      sym (
      ap (filter is_within) (sym (take-append-drop start items)) ∙ filter-append is_within (take start items) rest ∙ ap (λ l. l ++ filter is_within rest) front
      ∙ ap (filter is_within) (sym (take-append-drop count rest)) ∙ filter-append is_within (take count rest) (drop count rest)
      ∙ ap (λ l. l ++ filter is_within (drop count rest)) middle ∙ ap (λ l. take count rest ++ l) after ∙ append-nil (take count rest)
      )

  -- the same of what two calls of `partition_point` answer, the second past the place of the first
  pub slice_between : (start count : ℕ) → start ≤ length items → count ≤ length (take (length items - start) (drop start items))
      → (IsPartitionedBy is_before items → IsPartitionPoint (λ e. is_before e ≡ true) (λ e. is_before e ≡ false) items start)
      → (IsPartitionedBy is_within (take (length items - start) (drop start items))
      → IsPartitionPoint (λ e. is_within e ≡ true) (λ e. is_within e ≡ false) (take (length items - start) (drop start items)) count)
      → take count (take (length items - start) (drop start items)) ≡ filter is_within items
  slice_between start count low high first second =
      let rest = take_rest items start in
      let at = first IsPartitionedBy-before in
      let P : List (K × X) → Type 0 = λ l. IsPartitionPoint (λ e. is_within e ≡ true) (λ e. is_within e ≡ false) l count in
      let Q : List (K × X) → Type 0 = IsPartitionedBy is_within in
      let within_at : P (drop start items) = subst P rest (second (subst Q (sym rest) (IsPartitionedBy-within start at))) in
      let bound : count ≤ length (drop start items) = subst (λ l. count ≤ length l) rest high in
      ap (take count) rest ∙ filter_between start count low bound at within_at
