-- What a filter by key leaves of blocks, where the keys that pass are side by side.
use Rattle.std.proofs.Common.{◌≡◌, ℕ, zero, suc, ◌+◌, ◌-◌, ◌<◌, ◌≤◌, Bool, true, false, cond, List, [], ◌∷◌, ◌++◌, length, get_or, take, drop, filter, All, Less, Ordering, append_assoc, refl, sym, ap, subst, ◌∙◌, arith}
use Rattle.std.specs.List.{AllByRecursion}
use Rattle.std.specs.List.Sorted.{IsPartitionedBy, IsPartitionPoint}
use Rattle.std.specs.Map.{keys_of}
use Rattle.std.proofs.lemmas.Bool.{false≢true}
use Rattle.std.proofs.lemmas.List.{append-nil, get_or-append-add, get_or-drop, get_or-take, get_or_append_left, length-append, length-drop, length-take, take-append-drop}
use Rattle.std.proofs.lemmas.List.Elements.{filter-append, recursion_from_All}
use Rattle.std.proofs.lemmas.Grind.{flat_map-append}
use Rattle.std.proofs.lemmas.Map.Keys.{sorted_head}
use Rattle.shared_blocks.specs.Blocks.{joined}
use Rattle.persistent_maps.specs.Maps.{AreBlocks, HaveItems, starts}
use Rattle.persistent_maps.specs.Spans.{StandTogether}
use Rattle.persistent_maps.proofs.Parts.{Rise, Over, Under, Over-left, Over-right, Rise-left, Rise-right, Apart-append, Under-first}

module _ {K : Type 0} {R : K → K → Ordering} {before test : K → Bool} (span : StandTogether R before test) where
  -- from a key on that is past the span there is nothing of it
  late : (x y : K) → before x ≡ false → test x ≡ false → R x y ≡ Less → test y ≡ false
  late x y not_before not_within less = elim (test y) as (λ b. test y ≡ b → b ≡ false) [
    | true ↦ λ is. absurd (false≢true (sym not_within ∙ span.first x y less not_before is))
    | false ↦ λ _. refl
  ] refl

  -- between a key that does not come before the span and one of it there is nothing else
  not_before_after : (x y : K) → before x ≡ false → R x y ≡ Less → before y ≡ false
  not_before_after x y not_before less = elim (before y) as (λ b. before y ≡ b → b ≡ false) [
    | true ↦ λ is. absurd (false≢true (sym not_before ∙ span.falls x y less is))
    | false ↦ λ _. refl
  ] refl

module _ {K X : Type 0} {R : K → K → Ordering} {before test : K → Bool} (span : StandTogether R before test) where
  abbrev pub within : K × X → Bool
  within e = test e.0

  filter_none : (es : List (K × X)) → AllByRecursion (λ e. test e.0 ≡ false) es → filter within es ≡ []
  filter_none [] none = refl
  filter_none (e ∷ es) none = ap (λ b. cond b (e ∷ filter within es) (filter within es)) none.0 ∙ filter_none es none.1

  filter_all : (es : List (K × X)) → AllByRecursion (λ e. test e.0 ≡ true) es → filter within es ≡ es
  filter_all [] all = refl
  filter_all (e ∷ es) all = ap (λ b. cond b (e ∷ filter within es) (filter within es)) all.0 ∙ ap (λ l. e ∷ l) (filter_all es all.1)

  -- below a key that comes before the span there is nothing of it
  none_under : (es : List (K × X)) (x : K) → before x ≡ true → Under R es x → AllByRecursion (λ e. test e.0 ≡ false) es
  none_under [] x is under = tt
  none_under (e ∷ es) x is under = (span.apart e.0 (span.falls e.0 x under.0 is), none_under es x is under.1)

  none_over : (x : K) (es : List (K × X)) → before x ≡ false → test x ≡ false → Over R x es → AllByRecursion (λ e. test e.0 ≡ false) es
  none_over x [] not_before not_within over = tt
  none_over x (e ∷ es) not_before not_within over = (late span x e.0 not_before not_within over.0, none_over x es not_before not_within over.1)

  all_between : (x y : K) (es : List (K × X)) → before x ≡ false → test y ≡ true → Over R x es → Under R es y → AllByRecursion (λ e. test e.0 ≡ true) es
  all_between x y [] not_before is over under = tt
  all_between x y (e ∷ es) not_before is over under =
      (span.first e.0 y under.0 (not_before_after span x e.0 not_before over.0) is, all_between x y es not_before is over.1 under.1)

  -- ---- blocks that start before the span

  -- only the last of them can reach into it
  pub filter-before : (blocks : List (List (K × X))) → HaveItems blocks → Rise R (joined blocks) → AllByRecursion (λ b. starts before b ≡ true) blocks
      → filter within (joined blocks) ≡ filter within (get_or blocks (length blocks - 1) [])
  filter-before [] filled rise all = refl
  filter-before (b ∷ []) filled rise all = ap (filter within) (append-nil b)
  filter-before (b ∷ ([] ∷ blocks)) filled rise all = absurd (filled 1 [] (omega arith) refl)
  filter-before (b ∷ ((y ∷ ys) ∷ blocks)) filled rise all =
      let none = none_under b y.0 all.1.0 (Under-first R b y (ys ++ joined blocks) (Apart-append R b (y ∷ (ys ++ joined blocks)) rise)) in
      filter-append within b (joined ((y ∷ ys) ∷ blocks))
      ∙ ap (λ l. l ++ filter within (joined ((y ∷ ys) ∷ blocks))) (filter_none b none)
      ∙ filter-before ((y ∷ ys) ∷ blocks) (λ k d lt. filled (suc k) d (omega (arith, lt))) (Rise-right R b (joined ((y ∷ ys) ∷ blocks)) rise) all.1
      ∙ ap (λ i. filter within (get_or (b ∷ ((y ∷ ys) ∷ blocks)) i [])) (later (length blocks))
    where
      later : (n : ℕ) → suc (suc n - 1) ≡ suc (suc n) - 1
      later n = omega arith

  -- ---- blocks that do not start before it

  -- where the first starts past the span, none reaches into it
  filter-past : (blocks : List (List (K × X))) → HaveItems blocks → Rise R (joined blocks) → AllByRecursion (λ b. starts before b ≡ false) blocks → AllByRecursion (λ b. starts test b ≡ false) blocks
      → filter within (joined blocks) ≡ []
  filter-past [] filled rise late past = refl
  filter-past ([] ∷ blocks) filled rise late past = absurd (filled 0 [] (omega arith) refl)
  filter-past ((e ∷ es) ∷ blocks) filled rise late past =
      filter_none (e ∷ (es ++ joined blocks)) (past.0, none_over e.0 (es ++ joined blocks) late.0 past.0 (sorted_head R e.0 (keys_of (es ++ joined blocks)) rise))

  -- all but the last block that starts within the span are of it
  pub filter-within : (middle : List (List (K × X))) (last : List (K × X)) (tail : List (List (K × X))) → HaveItems (middle ++ last ∷ tail) → Rise R (joined (middle ++ last ∷ tail))
      → AllByRecursion (λ b. starts before b ≡ false) (middle ++ last ∷ tail) → AllByRecursion (λ b. starts test b ≡ true) (middle ++ last ∷ []) → AllByRecursion (λ b. starts test b ≡ false) tail
      → joined middle ++ filter within last ≡ filter within (joined (middle ++ last ∷ tail))
  filter-within [] last tail filled rise late all past =
      sym (
      filter-append within last (joined tail)
      ∙ ap (λ l. filter within last ++ l) (filter-past tail (λ k d lt. filled (suc k) d (omega (arith, lt))) (Rise-right R last (joined tail) rise) late.1 past)
      ∙ append-nil (filter within last)
      )
  filter-within ([] ∷ middle) last tail filled rise late all past = absurd (filled 0 [] (omega arith) refl)
  filter-within ((e ∷ es) ∷ []) [] tail filled rise late all past = absurd (filled 1 [] (omega arith) refl)
  filter-within ((e ∷ es) ∷ []) (y ∷ ys) tail filled rise late all past =
      let rest = (y ∷ ys) ∷ tail in
      let under = Under-first R (e ∷ es) y (ys ++ joined tail) (Apart-append R (e ∷ es) (joined rest) rise) in
      let first : test e.0 ≡ true = span.first e.0 y.0 under.0 late.0 all.1.0 in
      let others = all_between e.0 y.0 es late.0 all.1.0 (over_rest e es (joined rest) rise) under.1 in
      step (e ∷ es) (filter within (y ∷ ys)) rest (filter_all (e ∷ es) (first, others)) (filter-within [] (y ∷ ys) tail (λ k d lt. filled (suc k) d (omega (arith, lt))) (Rise-right R (e ∷ es) (joined rest) rise) late.1 all.1 past)
    where
      over_rest : (e : K × X) (es rest : List (K × X)) → Rise R ((e ∷ es) ++ rest) → Over R e.0 es
      over_rest e es rest rise = sorted_head R e.0 (keys_of es) (Rise-left R (e ∷ es) rest rise)

      step : (b after : List (K × X)) (rest : List (List (K × X))) → filter within b ≡ b → after ≡ filter within (joined rest) → (b ++ []) ++ after ≡ filter within (b ++ joined rest)
      step b after rest whole is = ap (λ l. l ++ after) (append-nil b) ∙ ap (λ l. b ++ l) is ∙ ap (λ l. l ++ filter within (joined rest)) (sym whole) ∙ sym (filter-append within b (joined rest))
  filter-within ((e ∷ es) ∷ ([] ∷ middle)) last tail filled rise late all past = absurd (filled 1 [] (omega arith) refl)
  filter-within ((e ∷ es) ∷ ((y ∷ ys) ∷ middle)) last tail filled rise late all past =
      let rest = ((y ∷ ys) ∷ middle) ++ last ∷ tail in
      let under = Under-first R (e ∷ es) y (ys ++ joined (middle ++ last ∷ tail)) (Apart-append R (e ∷ es) (joined rest) rise) in
      let first : test e.0 ≡ true = span.first e.0 y.0 under.0 late.0 all.1.0 in
      let others = all_between e.0 y.0 es late.0 all.1.0 (sorted_head R e.0 (keys_of es) (Rise-left R (e ∷ es) (joined rest) rise)) under.1 in
      let next = filter-within ((y ∷ ys) ∷ middle) last tail (λ k d lt. filled (suc k) d (omega (arith, lt))) (Rise-right R (e ∷ es) (joined rest) rise) late.1 all.1 past in
      append_assoc (e ∷ es) (joined ((y ∷ ys) ∷ middle)) (filter within last) ∙ ap (λ l. (e ∷ es) ++ l) next
      ∙ ap (λ l. l ++ filter within (joined rest)) (sym (filter_all (e ∷ es) (first, others))) ∙ sym (filter-append within (e ∷ es) (joined rest))

-- what a split of blocks that have items tells of its parts
module _ {T : Type 0} where
  pub filled_rest : (blocks : List (List T)) (b : List T) (rest : List (List T)) → blocks ≡ b ∷ rest → HaveItems blocks → HaveItems rest
  filled_rest blocks b rest split filled k d lt = subst HaveItems split filled (suc k) d (omega (arith, lt))

  pub filled_first : (blocks : List (List T)) (b : List T) (rest : List (List T)) → blocks ≡ b ∷ rest → HaveItems blocks → length b ≡ 0 → ⊥
  filled_first blocks [] rest split filled none = subst HaveItems split filled 0 [] (omega arith) refl
  filled_first blocks (x ∷ b) rest split filled none = absurd (omega (arith, none))

-- ---- where the blocks are cut

module _ {K X : Type 0} (R : K → K → Ordering) where
  Over-block : (x : K) (blocks : List (List (K × X))) (i : ℕ) (d : List (K × X)) → i < length blocks → Over R x (joined blocks) → Over R x (get_or blocks i d)
  Over-block x [] i d lt over = absurd (omega (arith, lt))
  Over-block x (b ∷ blocks) zero d lt over = Over-left R x b (joined blocks) over
  Over-block x (b ∷ blocks) (suc i) d lt over = Over-block x blocks i d (omega (arith, lt)) (Over-right R x b (joined blocks) over)

module _ {K X : Type 0} {R : K → K → Ordering} where
  pub AreBlocks-front : (front rest : List (List (K × X))) → AreBlocks R (front ++ rest) → AreBlocks R front
  AreBlocks-front front rest are = record {
    filled = λ k d lt none. are.filled k d (omega (arith, lt, length-append front rest)) (get_or_append_left front rest d k lt ∙ none);
    sorted = Rise-left R (joined front) (joined rest) (subst (Rise R) (flat_map-append (λ b. b) front rest) are.sorted);
  }

  pub AreBlocks-rest : (front rest : List (List (K × X))) → AreBlocks R (front ++ rest) → AreBlocks R rest
  AreBlocks-rest front rest are = record {
    filled = λ k d lt none. are.filled (length front + k) d (omega (arith, lt, length-append front rest)) (get_or-append-add front rest k d ∙ none);
    sorted = Rise-right R (joined front) (joined rest) (subst (Rise R) (flat_map-append (λ b. b) front rest) are.sorted);
  }

  -- the blocks from a place on
  pub AreBlocks-drop : (i : ℕ) (blocks : List (List (K × X))) → AreBlocks R blocks → AreBlocks R (drop i blocks)
  AreBlocks-drop i blocks are = AreBlocks-rest (take i blocks) (drop i blocks) (subst (AreBlocks R) (sym (take-append-drop i blocks)) are)

  -- the blocks in front, of which this is the last
  pub reached_parts : (blocks middle : List (List (K × X))) (last : List (K × X)) (count : ℕ) → AreBlocks R blocks → take count blocks ≡ middle ++ last ∷ [] → record { middle : AreBlocks R middle; last : Rise R last }
  reached_parts blocks middle last count are split =
      let front = AreBlocks-front (take count blocks) (drop count blocks) (subst (AreBlocks R) (sym (take-append-drop count blocks)) are) in
      let whole : AreBlocks R (middle ++ last ∷ []) = subst (AreBlocks R) split front in
      let ends = AreBlocks-rest middle (last ∷ []) whole in
      record { middle = AreBlocks-front middle (last ∷ []) whole; last = Rise-left R last [] ends.sorted }

  module _ {before test : K → Bool} (span : StandTogether R before test) where
    before_first : (e : K × X) (ys : List (K × X)) → Over R e.0 ys → starts before ys ≡ true → before e.0 ≡ true
    before_first e [] over is = absurd (false≢true is)
    before_first e (y ∷ ys) over is = span.falls e.0 y.0 over.0 is

    within_first : (e : K × X) (ys : List (K × X)) → Over R e.0 ys → before e.0 ≡ false → starts test ys ≡ true → test e.0 ≡ true
    within_first e [] over late is = absurd (false≢true is)
    within_first e (y ∷ ys) over late is = span.first e.0 y.0 over.0 late is

    -- blocks that start before the span come first
    pub IsPartitionedBy-before : (blocks : List (List (K × X))) → AreBlocks R blocks → IsPartitionedBy (starts before) blocks
    IsPartitionedBy-before [] are i j d le lt is = absurd (omega (arith, lt))
    IsPartitionedBy-before (b ∷ blocks) are zero zero d le lt is = is
    IsPartitionedBy-before ([] ∷ blocks) are zero (suc j) d le lt is = absurd (are.filled 0 [] (omega arith) refl)
    IsPartitionedBy-before ((e ∷ es) ∷ blocks) are zero (suc j) d le lt is =
        let over = Over-right R e.0 es (joined blocks) (sorted_head R e.0 (keys_of (es ++ joined blocks)) are.sorted) in
        before_first e (get_or blocks j d) (Over-block R e.0 blocks j d (omega (arith, lt)) over) is
    IsPartitionedBy-before (b ∷ blocks) are (suc i) zero d le lt is = absurd (omega (arith, le))
    IsPartitionedBy-before (b ∷ blocks) are (suc i) (suc j) d le lt is =
        IsPartitionedBy-before blocks (AreBlocks-rest (b ∷ []) blocks are) i j d (omega (arith, le)) (omega (arith, lt)) is

    -- and of the others those that start within it
    pub IsPartitionedBy-within : (blocks : List (List (K × X))) → AreBlocks R blocks → AllByRecursion (λ b. starts before b ≡ false) blocks → IsPartitionedBy (starts test) blocks
    IsPartitionedBy-within [] are late i j d le lt is = absurd (omega (arith, lt))
    IsPartitionedBy-within (b ∷ blocks) are late zero zero d le lt is = is
    IsPartitionedBy-within ([] ∷ blocks) are late zero (suc j) d le lt is = absurd (are.filled 0 [] (omega arith) refl)
    IsPartitionedBy-within ((e ∷ es) ∷ blocks) are late zero (suc j) d le lt is =
        let over = Over-right R e.0 es (joined blocks) (sorted_head R e.0 (keys_of (es ++ joined blocks)) are.sorted) in
        within_first e (get_or blocks j d) (Over-block R e.0 blocks j d (omega (arith, lt)) over) late.0 is
    IsPartitionedBy-within (b ∷ blocks) are late (suc i) zero d le lt is = absurd (omega (arith, le))
    IsPartitionedBy-within (b ∷ blocks) are late (suc i) (suc j) d le lt is =
        IsPartitionedBy-within blocks (AreBlocks-rest (b ∷ []) blocks are) late.1 i j d (omega (arith, le)) (omega (arith, lt)) is

    -- ---- what the code cuts out

    -- of the blocks that start within the span, which all end with this one
    pub filter-reached : (blocks middle : List (List (K × X))) (last : List (K × X)) (count : ℕ) → AreBlocks R blocks → All (λ b. starts before b ≡ false) blocks
        → IsPartitionPoint (λ b. starts test b ≡ true) (λ b. starts test b ≡ false) blocks count → count ≤ length blocks → take count blocks ≡ middle ++ last ∷ []
        → joined middle ++ filter (λ e. test e.0) last ≡ filter (λ e. test e.0) (joined blocks)
    filter-reached blocks middle last count are late at bound split =
        let tail = drop count blocks in
        let whole : middle ++ last ∷ tail ≡ blocks = sym (append_assoc middle (last ∷ []) tail) ∙ ap (λ l. l ++ tail) (sym split) ∙ take-append-drop count blocks in
        let all : AllByRecursion (λ b. starts test b ≡ true) (middle ++ last ∷ []) =
        subst (AllByRecursion (λ b. starts test b ≡ true)) split
        (recursion_from_All (λ b. starts test b ≡ true) (take count blocks) (λ k d lt. ap (starts test) (get_or-take count blocks k d (within_take k lt)) ∙ at.0 k d (omega arith) (within_take k lt))) in
        let past : AllByRecursion (λ b. starts test b ≡ false) tail =
        recursion_from_All (λ b. starts test b ≡ false) tail (λ k d lt. ap (starts test) (get_or-drop count blocks k d) ∙ at.1 (count + k) d (omega arith) (omega (arith, lt, length-drop count blocks))) in
        filter-within span middle last tail (subst HaveItems (sym whole) are.filled) (subst (λ l. Rise R (joined l)) (sym whole) are.sorted)
        (subst (AllByRecursion (λ b. starts before b ≡ false)) (sym whole) (recursion_from_All (λ b. starts before b ≡ false) blocks late)) all past
        ∙ ap (λ l. filter (λ e. test e.0) (joined l)) whole
      where
        within_take : (k : ℕ) → k < length (take count blocks) → k < count
        within_take k lt = omega (arith, lt, length-take count blocks)

    -- and where none does
    pub filter-not_reached : (blocks : List (List (K × X))) (count : ℕ) → AreBlocks R blocks → All (λ b. starts before b ≡ false) blocks
        → IsPartitionPoint (λ b. starts test b ≡ true) (λ b. starts test b ≡ false) blocks count → count ≤ length blocks → length (take count blocks) ≡ 0
        → filter (λ e. test e.0) (joined blocks) ≡ []
    filter-not_reached blocks count are late at bound none =
        filter-past span blocks are.filled are.sorted (recursion_from_All (λ b. starts before b ≡ false) blocks late)
        (recursion_from_All (λ b. starts test b ≡ false) blocks (λ k d lt. at.1 k d (omega (arith, none, length-take count blocks, bound)) lt))
