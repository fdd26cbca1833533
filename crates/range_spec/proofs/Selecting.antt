-- The intervals of one more spec.
use Rattle.std.proofs.Common.{◌≡◌, ℕ, ◌+◌, ◌<◌, List, [], ◌∷◌, ◌++◌, length, get_or, take, ap, ◌∙◌, Option, Some, None, arith}
use Rattle.std.specs.List.{filter_map, cons_option}
use Rattle.std.proofs.lemmas.List.{take_more, append-nil}
use Rattle.std.specs.Prelude.{◌↔◌, IsSomeAnd}
use Rattle.std.proofs.lemmas.Bool.Decides.{nat_tests}
use Rattle.range_spec.specs.declared.grammar.Spec.{Spec}
use Rattle.range_spec.specs.declared.grammar.Spec.TheVariants.{From, Suffix}
use Rattle.range_spec.specs.Chosen.{interval_of, AsksFor, LiesIn}
use Rattle.std.proofs.lemmas.List.Elements.{filter_map-append}

filter_map_more : {X Y : Type 0} (f : X → Option Y) (xs : List X) (i : ℕ) (d : X) → i < length xs → filter_map f (take (i + 1) xs) ≡ filter_map f (take i xs) ++ cons_option (f (get_or xs i d)) []
filter_map_more f xs i d h = ap (filter_map f) (take_more xs i d h) ∙ filter_map-append f (take i xs) (get_or xs i d ∷ [])

-- one that gives an interval
pub filter_map_more_some : {X Y : Type 0} (f : X → Option Y) (xs : List X) (i : ℕ) (d : X) (y : Y) → i < length xs → f (get_or xs i d) ≡ Some y → filter_map f (take (i + 1) xs) ≡ filter_map f (take i xs) ++ y ∷ []
filter_map_more_some f xs i d y h e = filter_map_more f xs i d h ∙ ap (λ o. filter_map f (take i xs) ++ cons_option o []) e

-- one that gives none
pub filter_map_more_none : {X Y : Type 0} (f : X → Option Y) (xs : List X) (i : ℕ) (d : X) → i < length xs → f (get_or xs i d) ≡ None → filter_map f (take (i + 1) xs) ≡ filter_map f (take i xs)
filter_map_more_none f xs i d h e = filter_map_more f xs i d h ∙ ap (λ o. filter_map f (take i xs) ++ cons_option o []) e ∙ append-nil (filter_map f (take i xs))

-- the interval of a spec has the positions that it asks for
pub interval_has : (size position : ℕ) (spec : Spec) → position < size → IsSomeAnd (interval_of size spec) (LiesIn position) ↔ AsksFor size spec position
interval_has size position (From first None) h = grind (arith, nat_tests)
interval_has size position (From first (Some last)) h = grind (arith, nat_tests)
interval_has size position (Suffix n) h = grind (arith, nat_tests)
