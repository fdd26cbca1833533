-- Pieces of which each name is put once.
use Rattle.std.proofs.Common.{◌≡◌, ◌≢◌, ◌⊎◌, inl, inr, ℕ, Bool, true, false, cond, ◌||◌, List, [], ◌∷◌, ◌++◌, AllPairs, Contains, map, refl, sym, ap, subst, ◌∙◌, arith}
use Rattle.std.proofs.lemmas.Cmp.{eq_by_cmp_equiv}
use Rattle.std.proofs.lemmas.List.Elements.{All-from_recursion, Contains-append_cases, Contains-append_left, Contains-append_right, Contains-push, Contains-push_cases}
use Rattle.std.proofs.lemmas.List.Kept.{AllPairs-cons}
use Rattle.std.specs.List.{AllByRecursion, list_any}
use Rattle.std.specs.Ordering.{eq_by_cmp, is_eq}
use Rattle.std.specs.declared.cmp.Ordering.{Ordering}
use Rattle.std.specs.declared.cmp.Ordering.TheVariants.{Less, Equal, Greater}
use Rattle.host_names.specs.declared.digests.Digest.{Digest}
use Rattle.host_names.specs.Digests.{digest_cmp, digest_cmp_total, digest_cmp-IsAntisymmetric, digest_of}
use Rattle.blob_store.specs.Calls.{AreOnceEach}

pub is_eq-true : (o : Ordering) → is_eq o ≡ true → o ≡ Equal
is_eq-true Less e = cc e
is_eq-true Equal e = refl
is_eq-true Greater e = cc e

-- ---- elements

pub contains_here : {X : Type 0} (x : X) (xs : List X) → Contains (x ∷ xs) x
contains_here x xs = Contains-append_left (x ∷ []) xs x (Contains-push [] x)

pub contains_more : {X : Type 0} (x y : X) (xs : List X) → Contains xs y → Contains (x ∷ xs) y
contains_more x y xs there = Contains-append_right (x ∷ []) xs y there

pub contains_none : {X : Type 0} (x : X) → Contains [] x → ⊥
contains_none x there = let below = there.1 in absurd (omega (arith, below))

pub first_or : {X : Type 0} (x : X) (xs : List X) {y : X} → Contains (x ∷ xs) y → (x ≡ y) ⊎ Contains xs y
first_or x xs {y} there = elim (Contains-append_cases (x ∷ []) xs y there) [
  | inl one ↦ elim (Contains-push_cases [] x y one) [
    | inl none ↦ absurd (contains_none y none)
    | inr is ↦ inl is
  ]
  | inr later ↦ inr later
]

all_weaker : {X : Type 0} (P Q : X → Type 0) → ((x : X) → P x → Q x) → (xs : List X) → AllByRecursion P xs → AllByRecursion Q xs
all_weaker P Q weaker [] all = tt
all_weaker P Q weaker (x ∷ xs) all = (weaker x all.0, all_weaker P Q weaker xs all.1)

-- ---- whether a name is among others

abbrev pub is_among : List Digest → Digest → Bool
is_among names name = list_any (λ other. eq_by_cmp digest_cmp other name) names

pub among_true : (names : List Digest) (name : Digest) → is_among names name ≡ true → Contains names name
among_true [] name e = absurd (cc e)
among_true (other ∷ names) name e =
    elim (eq_by_cmp digest_cmp other name) as (λ b. eq_by_cmp digest_cmp other name ≡ b → (b || is_among names name) ≡ true → Contains (other ∷ names) name) [
      | true ↦ λ tie h. subst (λ d. Contains (other ∷ names) d) (digest_cmp-IsAntisymmetric other name (is_eq-true _ tie)) (contains_here other names)
      | false ↦ λ tie h. contains_more other name names (among_true names name h)
    ] refl e

pub or-true : (b : Bool) → (b || true) ≡ true
or-true true = refl
or-true false = refl

pub among_of : (names : List Digest) (name : Digest) → Contains names name → is_among names name ≡ true
among_of [] name there = absurd (contains_none name there)
among_of (other ∷ names) name there = elim (first_or other names there) [
  | inl is ↦
      let tie : eq_by_cmp digest_cmp other name ≡ true = ap (eq_by_cmp digest_cmp other) (sym is) ∙ (eq_by_cmp_equiv digest_cmp_total).refl other in
      ap (λ b. b || is_among names name) tie
  | inr later ↦ ap (λ b. eq_by_cmp digest_cmp other name || b) (among_of names name later) ∙ or-true (eq_by_cmp digest_cmp other name)
]

-- ---- what is put

-- a piece, unless its name is one of these
abbrev pub new_piece : List Digest → List ℕ → List (List ℕ)
new_piece seen piece = cond (is_among seen (digest_of piece)) [] (piece ∷ [])

-- these pieces, but for those whose name is one of these or of a piece before
abbrev pub once : List Digest → List (List ℕ) → List (List ℕ)
once seen [] = []
once seen (piece ∷ pieces) = new_piece seen piece ++ once (seen ++ digest_of piece ∷ []) pieces

once_among : (all : List (List ℕ)) (seen : List Digest) (pieces : List (List ℕ)) → AllByRecursion (Contains all) pieces → AllByRecursion (Contains all) (once seen pieces)
once_among all seen [] are = tt
once_among all seen (piece ∷ pieces) are =
    let rest = once_among all (seen ++ digest_of piece ∷ []) pieces are.1 in
    elim (is_among seen (digest_of piece)) as (λ b. AllByRecursion (Contains all) (cond b [] (piece ∷ []) ++ once (seen ++ digest_of piece ∷ []) pieces)) [
      | true ↦ rest
      | false ↦ (are.0, rest)
    ]

-- a name was seen, or is that of a piece that is put
abbrev IsMet : List Digest → List (List ℕ) → Digest → Type 0
IsMet seen some name = Contains seen name ⊎ Contains (map digest_of some) name

-- one more piece, which is put unless its name was seen
met_more : (seen : List Digest) (piece : List ℕ) (some : List (List ℕ)) (name : Digest) → IsMet (seen ++ digest_of piece ∷ []) some name
    → IsMet seen (new_piece seen piece ++ some) name
met_more seen piece some name met =
    let here : IsMet seen (new_piece seen piece ++ some) (digest_of piece) =
    elim (is_among seen (digest_of piece)) as (λ b. is_among seen (digest_of piece) ≡ b → IsMet seen (cond b [] (piece ∷ []) ++ some) (digest_of piece)) [
      | true ↦ λ e. inl (among_true seen (digest_of piece) e)
      | false ↦ λ e. inr (contains_here (digest_of piece) (map digest_of some))
    ] refl in
    elim met [
      | inl before ↦ elim (Contains-push_cases seen (digest_of piece) name before) [
        | inl was ↦ inl was
        | inr is ↦ subst (IsMet seen (new_piece seen piece ++ some)) is here
      ]
      | inr later ↦ inr (elim (is_among seen (digest_of piece)) as (λ b. Contains (map digest_of (cond b [] (piece ∷ []) ++ some)) name) [
        | true ↦ later
        | false ↦ contains_more (digest_of piece) name (map digest_of some) later
      ])
    ]

once_met : (seen : List Digest) (pieces : List (List ℕ)) → AllByRecursion (λ piece. IsMet seen (once seen pieces) (digest_of piece)) pieces
once_met seen [] = tt
once_met seen (piece ∷ pieces) =
    let seen_now = seen ++ digest_of piece ∷ [] in
    let some = once seen_now pieces in (
      met_more seen piece some (digest_of piece) (inl (Contains-push seen (digest_of piece))),
      all_weaker (λ p. IsMet seen_now some (digest_of p)) (λ p. IsMet seen (new_piece seen piece ++ some) (digest_of p))
          (λ p. met_more seen piece some (digest_of p)) pieces (once_met seen_now pieces),
    )

-- no two of these names are one
abbrev AreApart : List Digest → Type 0
AreApart names = AllPairs (λ name other. name ≢ other) names

once_apart : (seen : List Digest) (pieces : List (List ℕ))
    → AreApart (map digest_of (once seen pieces)) × AllByRecursion (λ name. ¬ (Contains seen name)) (map digest_of (once seen pieces))
once_apart seen [] = ((λ i j d below within. absurd (omega (arith, within))), tt)
once_apart seen (piece ∷ pieces) =
    let one = digest_of piece in
    let rest = once_apart (seen ++ one ∷ []) pieces in
    let names = map digest_of (once (seen ++ one ∷ []) pieces) in
    let New : Digest → Type 0 = λ name. ¬ (Contains (seen ++ one ∷ []) name) in
    let later = all_weaker New (λ name. ¬ (Contains seen name)) (λ name new was. new (Contains-append_left seen (one ∷ []) name was)) names rest.1 in
    let others = all_weaker New (λ name. one ≢ name) (λ name new is. new (subst (Contains (seen ++ one ∷ [])) is (Contains-push seen one))) names rest.1 in
    elim (is_among seen one) as (λ b. is_among seen one ≡ b
    → AreApart (map digest_of (cond b [] (piece ∷ []) ++ once (seen ++ one ∷ []) pieces))
    × AllByRecursion (λ name. ¬ (Contains seen name)) (map digest_of (cond b [] (piece ∷ []) ++ once (seen ++ one ∷ []) pieces))) [
      | true ↦ λ e. (rest.0, later)
      | false ↦ λ e. (
        AllPairs-cons (λ name other. name ≢ other) one names (All-from_recursion (λ name. one ≢ name) names others) rest.0,
        ((λ was. let wrong : true ≡ false = sym (among_of seen one was) ∙ e in absurd (cc wrong)), later),
      )
    ] refl

pub once_each : (stored : List Digest) (pieces : List (List ℕ)) → AllByRecursion (Contains pieces) pieces → AreOnceEach stored pieces (once stored pieces)
once_each stored pieces themselves = record {
  among = once_among pieces stored pieces themselves;
  each = once_met stored pieces;
  apart = (once_apart stored pieces).0;
  fresh = (once_apart stored pieces).1;
}
