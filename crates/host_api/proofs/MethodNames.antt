-- The names of methods.
use Rattle.std.proofs.Common.{◌≡◌, ℕ, ◌||◌, List, [], ◌∷◌, Bor, map, refl, ap, ◌∙◌}
use Rattle.std.specs.Cmp.Lexicographic.{nat_list_eq_equiv}
use Rattle.std.specs.List.{list_any}
use Rattle.std.specs.Str.{bytes_eq}

-- whether the method is among the names, with the two compared in the other order
pub any_name : (names : List (Bor (List ℕ))) (method : List ℕ)
    → list_any (λ name. bytes_eq name.now method) names ≡ list_any (bytes_eq method) (map (λ (name : Bor (List ℕ)). name.now) names)
any_name [] method = refl
any_name (name ∷ names) method =
    ap (λ b. b || list_any (λ (n : Bor (List ℕ)). bytes_eq n.now method) names) (nat_list_eq_equiv.symm name.now method)
    ∙ ap (λ b. bytes_eq method name.now || b) (any_name names method)
