-- The longest front of a text whose bytes are all of one kind.
use Rattle.std.proofs.Common.{◌≡◌, ℕ, List, [], ◌∷◌, ◌++◌, refl, subst}
use Rattle.std.specs.List.{AllByRecursion}
use Rattle.range_spec.specs.Reading.{BeginsNo}

-- there is one such front
pub fronts_agree : (P : ℕ → Type 0) (a b x y : List ℕ) → AllByRecursion P a → AllByRecursion P b → BeginsNo P x → BeginsNo P y → a ++ x ≡ b ++ y → (a ≡ b) × (x ≡ y)
fronts_agree P [] [] x y all_a all_b no_x no_y e = (refl, e)
fronts_agree P [] (c ∷ b) x y all_a all_b no_x no_y e = absurd (subst (BeginsNo P) e no_x all_b.0)
fronts_agree P (c ∷ a) [] x y all_a all_b no_x no_y e = absurd (subst (λ t. BeginsNo P t → ⊥) e (λ no. no all_a.0) no_y)
fronts_agree P (c ∷ a) (d ∷ b) x y all_a all_b no_x no_y e =
    let rest : a ++ x ≡ b ++ y = cc in
    let both = fronts_agree P a b x y all_a.1 all_b.1 no_x no_y rest in
    let heads : c ≡ d = cc in
    let tails : a ≡ b = both.0 in
    (cc, both.1)

pub all_append : (P : ℕ → Type 0) (xs ys : List ℕ) → AllByRecursion P xs → AllByRecursion P ys → AllByRecursion P (xs ++ ys)
all_append P [] ys h k = k
all_append P (x ∷ xs) ys h k = (h.0, all_append P xs ys h.1 k)

pub all_weaker : (P Q : ℕ → Type 0) → ((b : ℕ) → P b → Q b) → (xs : List ℕ) → AllByRecursion P xs → AllByRecursion Q xs
all_weaker P Q f [] h = tt
all_weaker P Q f (x ∷ xs) h = (f x h.0, all_weaker P Q f xs h.1)
