-- Each path is below the next exactly where the paths strictly rise.
use Rattle.std.proofs.Common.{◌≡◌, ℕ, zero, suc, ◌<◌, add-one, Bool, true, false, ◌&&◌, List, [], ◌∷◌, map, get_or, length, Option, Ordering, refl, sym, subst, arith}
use Rattle.std.specs.Cmp.Lexicographic.{slice_cmp, nat_list_cmp_total}
use Rattle.std.specs.List.{AllByRecursion, IsAllAdjacentAnswer}
use Rattle.std.specs.List.Sorted.{IsStrictlySortedBy}
use Rattle.std.specs.Ordering.{nat_cmp, is_lt}
use Rattle.std.specs.declared.cmp.Ordering.TheVariants.{Less, Equal, Greater}
use Rattle.std.proofs.lemmas.Bool.{and_parts}
use Rattle.host_names.specs.declared.digests.Digest.{Digest}
use Rattle.site_state.specs.Files.{IsByPath}
use Rattle.entry_texts.specs.Reading.{is_rising}

abbrev pub Entry : Type 0
Entry = List ℕ × Option Digest

abbrev path_cmp : List ℕ → List ℕ → Ordering
path_cmp = slice_cmp nat_cmp

-- whether the one path is below the other
abbrev pub is_before : Entry → Entry → Bool
is_before one other = is_lt (path_cmp one.0 other.0)

less_from : (r : Ordering) → is_lt r ≡ true → r ≡ Less
less_from Less e = refl
less_from Equal e = absurd (cc e)
less_from Greater e = absurd (cc e)

abbrev paths_of : List Entry → List (List ℕ)
paths_of = map (λ e. e.0)

below_all : (p q : List ℕ) (ps : List (List ℕ)) → path_cmp p q ≡ Less → AllByRecursion (λ r. path_cmp q r ≡ Less) ps → AllByRecursion (λ r. path_cmp p r ≡ Less) ps
below_all p q [] less all = tt
below_all p q (r ∷ ps) less all = (nat_list_cmp_total.trans p q r less all.0, below_all p q ps less all.1)

pub by_path : (files : List Entry) → is_rising files ≡ true → IsByPath files
unfolding is_rising IsStrictlySortedBy
by_path [] h = tt
by_path (e ∷ []) h = (tt, tt)
by_path (e ∷ f ∷ files) h =
    let parts = and_parts (is_before e f) (is_rising (f ∷ files)) h in
    let less = less_from (path_cmp e.0 f.0) parts.0 in
    let rest = by_path (f ∷ files) parts.1 in
    ((less, below_all e.0 f.0 (paths_of files) less rest.0), rest)

pub rises : (files : List Entry) → IsByPath files → is_rising files ≡ true
unfolding is_rising IsStrictlySortedBy
rises [] h = refl
rises (e ∷ []) h = refl
rises (e ∷ f ∷ files) h = rw (h.0.0, rises (f ∷ files) h.1) refl

-- ---- the look at neighbours

all_neighbours : (files : List Entry) → ((k : ℕ) (d : Entry) → suc k < length files → true ≡ is_before (get_or files k d) (get_or files (suc k) d)) → is_rising files ≡ true
unfolding is_rising
all_neighbours [] h = refl
all_neighbours (e ∷ []) h = refl
all_neighbours (e ∷ f ∷ files) h =
    rw (← h 0 e (omega arith), all_neighbours (f ∷ files) (λ k d inside. h (suc k) d (omega (arith, inside)))) refl

no_end : (b : Bool) → (b && false) ≡ false
no_end true = refl
no_end false = refl

one_falls : (files : List Entry) (k : ℕ) → suc k < length files → ((d : Entry) → false ≡ is_before (get_or files k d) (get_or files (suc k) d)) → is_rising files ≡ false
unfolding is_rising
one_falls [] k inside h = absurd (omega (arith, inside))
one_falls (e ∷ []) k inside h = absurd (omega (arith, inside))
one_falls (e ∷ f ∷ files) zero inside h = rw (← h e) refl
one_falls (e ∷ f ∷ files) (suc k) inside h = rw (one_falls (f ∷ files) k (omega (arith, inside)) h) (no_end (is_before e f))

pub answered : (files : List Entry) (r : Bool) → IsAllAdjacentAnswer (λ x y b. b ≡ is_before x y) files r → r ≡ is_rising files
answered files true all =
    sym (all_neighbours files (λ k d inside. subst (λ (j : ℕ). true ≡ is_before (get_or files k d) (get_or files j d)) (add-one k) (all k d (omega (arith, inside)))))
answered files false one =
    sym (one_falls files one.0 (omega (arith, one.1)) (λ d. subst (λ (j : ℕ). false ≡ is_before (get_or files one.0 d) (get_or files j d)) (add-one one.0) (one.2 d)))
