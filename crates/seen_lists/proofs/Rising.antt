-- What rises is newer at its end than anywhere before.
use Rattle.std.proofs.Common.{◌≡◌, ◌⊎◌, ◌≤◌, inl, inr, ⊎_elim, ℕ, nat_le, MatchBool, List, [], ◌∷◌, ◌++◌, length, refl, sym, ap, subst, arith}
use Rattle.std.proofs.lemmas.Bool.Decides.{leb_tells}
use mathlib.Core.List.{IsPrefix}
use Rattle.growing.specs.Orders.{IsNewer}
use Rattle.seen_lists.specs.Fronts.{Rises, latest}
use Rattle.seen_lists.specs.Rules.{Link, items_of}
use Rattle.seen_lists.proofs.Beginnings.{prefix_shorter, prefix_whole}
use Rattle.seen_lists.proofs.Logs.{items_prefix}

pub latest_more : {E : Type 0} (x : E) (xs : List E) (y : E) → latest x (xs ++ y ∷ []) ≡ y
latest_more x [] y = refl
latest_more x (z ∷ xs) y = latest_more z xs y

pub rises_more : {E : Type 0} (later : E → E → Type 0) (x : E) (xs : List E) (y : E) → Rises later x xs → IsNewer later (latest x xs) y → Rises later x (xs ++ y ∷ [])
rises_more later x [] y r on = (on, tt)
rises_more later x (z ∷ xs) y r on = (r.0, rises_more later z xs y r.1 on)

module _ {E : Type 0} (later : E → E → Type 0) (itself : (x : E) → later x x) (goes_on : (x y z : E) → later x y → later y z → later x z) where
  pub reach : (x : E) (ys : List E) → Rises later x ys → later x (latest x ys)
  reach x [] r = itself x
  reach x (y ∷ ys) r = goes_on x y (latest y ys) r.0.0 (reach y ys r.1)

  pub prefix_later : (x : E) (xs ys : List E) → IsPrefix xs ys → Rises later x ys → later (latest x xs) (latest x ys)
  prefix_later x [] ys p r = reach x ys r
  prefix_later x (z ∷ xs) [] p r = absurd (cc (p.1))
  prefix_later x (z ∷ xs) (y ∷ ys) p r =
      let heads : z ≡ y = cc (p.1) in
      let rest = prefix_later z xs ys (p.0, cc (p.1)) (subst (λ w. Rises later w ys) (sym heads) r.1) in
      subst (λ w. later (latest z xs) (latest w ys)) heads rest

  -- with more items it is newer
  pub prefix_newer : (x : E) (xs ys : List E) → IsPrefix xs ys → Rises later x ys → length ys ≤ length xs ⊎ IsNewer later (latest x xs) (latest x ys)
  prefix_newer x [] [] p r = inl (omega arith)
  prefix_newer x [] (y ∷ ys) p r = inr (reach x (y ∷ ys) r, λ back. r.0.1 (goes_on y (latest y ys) x (reach y ys r.1) back))
  prefix_newer x (z ∷ xs) [] p r = absurd (cc (p.1))
  prefix_newer x (z ∷ xs) (y ∷ ys) p r =
      let heads : z ≡ y = cc (p.1) in
      elim (prefix_newer z xs ys (p.0, cc (p.1)) (subst (λ w. Rises later w ys) (sym heads) r.1)) [
        | inl short ↦ inl (omega (arith, short))
        | inr new ↦ inr (subst (λ w. IsNewer later (latest z xs) (latest w ys)) heads new)
      ]

  -- of two that saw beginnings of one log
  module _ (found : E) (own theirs both : List (Link E)) (mine : IsPrefix own both) (other : IsPrefix theirs both)
      (rises_own : Rises later found (items_of own)) (rises_theirs : Rises later found (items_of theirs)) where
    own_begins : length (items_of own) ≤ length (items_of theirs) → IsPrefix (items_of own) (items_of theirs)
    own_begins le = prefix_shorter (items_of own) (items_of theirs) (items_of both) (items_prefix own both mine) (items_prefix theirs both other) le

    theirs_begin : length (items_of theirs) ≤ length (items_of own) → IsPrefix (items_of theirs) (items_of own)
    theirs_begin le = prefix_shorter (items_of theirs) (items_of own) (items_of both) (items_prefix theirs both other) (items_prefix own both mine) le

    -- the one with more items is newer
    pub fronts_ordered : (n m : ℕ) → n ≡ length (items_of own) → m ≡ length (items_of theirs)
        → MatchBool (nat_le m n) (later (latest found (items_of theirs)) (latest found (items_of own))) (IsNewer later (latest found (items_of own)) (latest found (items_of theirs)))
    fronts_ordered n m is_n is_m =
        elim (leb_tells m n) [
          | inl h ↦ rw h.0 (prefix_later found (items_of theirs) (items_of own) (theirs_begin (omega (arith, h.1, is_n, is_m))) rises_own)
          | inr h ↦ rw h.0 (⊎_elim (λ (short : length (items_of theirs) ≤ length (items_of own)). absurd (omega (arith, h.1, is_n, is_m, short))) (λ new. new)
              (prefix_newer found (items_of own) (items_of theirs) (own_begins (omega (arith, h.1, is_n, is_m))) rises_theirs))
        ]

    -- two that are each as late as the other have the same items
    pub fronts_same : later (latest found (items_of own)) (latest found (items_of theirs)) → later (latest found (items_of theirs)) (latest found (items_of own))
        → latest found (items_of own) ≡ latest found (items_of theirs)
    fronts_same on back =
        elim (leb_tells (length (items_of own)) (length (items_of theirs))) [
          | inl h ↦ let p = own_begins h.1 in
              ⊎_elim (λ short. ap (latest found) (prefix_whole (items_of own) (items_of theirs) p short)) (λ new. absurd (new.1 back))
              (prefix_newer found (items_of own) (items_of theirs) p rises_theirs)
          | inr h ↦ let p = theirs_begin (omega (arith, h.1)) in
              ⊎_elim (λ short. absurd (omega (arith, h.1, short))) (λ new. absurd (new.1 on))
              (prefix_newer found (items_of theirs) (items_of own) p rises_own)
        ]
