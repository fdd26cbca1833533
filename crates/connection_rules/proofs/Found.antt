-- What is found of connections that are looked at in turn.
use Rattle.std.proofs.Common.{◌≡◌, ◌≤◌, ◌⊎◌, ℕ, suc, Bool, true, false, List, [], ◌∷◌, Option, Some, arith, inl, inr, refl, subst, sym, nat_lt, if◌then◌else◌}
use Rattle.std.proofs.lemmas.Bool.Decides.{nat_tests}
use Rattle.std.specs.List.{AllByRecursion, Contains}
use Rattle.connection_rules.specs.Least.{IsLeast, found_after, least_of}

-- a connection is found whose number is no greater than that of the first and than those of the rest, and it is one of them
abbrev Finds : ℕ × ℕ → List (ℕ × ℕ) → Option (ℕ × ℕ) → Type 0
Finds first rest found =
    (p : ℕ × ℕ) × (found ≡ Some p) × (p.1 ≤ first.1) × AllByRecursion (λ (other : ℕ × ℕ). p.1 ≤ other.1) rest × ((p ≡ first) ⊎ Contains rest p)

-- what is among the rest is among all
behind : (w p : ℕ × ℕ) (ws : List (ℕ × ℕ)) → Contains ws p → Contains (w ∷ ws) p
behind w p ws (k, below, is) = (suc k, omega arith, is)

either_of : (w p : ℕ × ℕ) (ws : List (ℕ × ℕ)) → (p ≡ w) ⊎ Contains ws p → Contains (w ∷ ws) p
either_of w p ws (inl is) = (0, omega arith, sym is)
either_of w p ws (inr among) = behind w p ws among

rest_of : (first w p : ℕ × ℕ) (ws : List (ℕ × ℕ)) → (p ≡ first) ⊎ Contains ws p → (p ≡ first) ⊎ Contains (w ∷ ws) p
rest_of first w p ws (inl is) = inl is
rest_of first w p ws (inr among) = inr (behind w p ws among)

pub finds : (first : ℕ × ℕ) (rest : List (ℕ × ℕ)) → Finds first rest (found_after (Some first) rest)
finds first [] = (first, refl, omega arith, tt, inl refl)
finds first (w ∷ ws) = go (nat_lt w.1 first.1) refl (finds w ws) (finds first ws)
  where
    go : (b : Bool) → nat_lt w.1 first.1 ≡ b → Finds w ws (found_after (Some w) ws) → Finds first ws (found_after (Some first) ws)
        → Finds first (w ∷ ws) (found_after (if b then Some w else Some first) ws)
    go true is (p, found, near, far, among) g =
        let lesser : w.1 ≤ first.1 = grind (arith, nat_tests) in
        (p, found, omega (arith, near, lesser), (near, far), inr (either_of w p ws among))
    go false is f (p, found, near, far, among) =
        let greater : first.1 ≤ w.1 = grind (arith, nat_tests) in
        (p, found, near, (omega (arith, near, greater), far), rest_of first w p ws among)

is_least_of : (w : ℕ × ℕ) (ws : List (ℕ × ℕ)) (found : Option (ℕ × ℕ)) → Finds w ws found → IsLeast (w ∷ ws) found
is_least_of w ws found (p, is, first, rest, among) = subst (IsLeast (w ∷ ws)) (sym is) (either_of w p ws among, (first, rest))

pub is_least : (all : List (ℕ × ℕ)) → IsLeast all (least_of all)
is_least [] = refl
is_least (w ∷ ws) = is_least_of w ws (found_after (Some w) ws) (finds w ws)
