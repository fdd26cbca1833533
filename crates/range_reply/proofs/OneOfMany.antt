-- Texts of which one has some bytes.
use Rattle.std.proofs.Common.{◌≡◌, ℕ, ◌<◌, List, [], get_or, length, sym, subst, ◌∙◌, arith}
use Rattle.std.proofs.lemmas.List.{get_or_default}
use Rattle.range_reply.specs.Slices.{OccursInOne}
use Rattle.byte_view.proofs.Occurrences.{OccursIn}

pub one_has : (bytes : List ℕ) (texts : List (List ℕ)) (k : ℕ) → k < length texts → OccursIn bytes (get_or texts k []) → OccursInOne bytes texts
one_has bytes texts k lt o =
    let text = get_or texts k [] in (text, (k, lt, get_or_default texts k text [] lt), o)

pub none_has : (bytes : List ℕ) (texts : List (List ℕ)) (n : ℕ) → length texts ≡ n → ((k : ℕ) → k < n → OccursIn bytes (get_or texts k []) → ⊥) → OccursInOne bytes texts → ⊥
none_has bytes texts n count free o =
    let k = o.1.0 in let lt = o.1.1 in
    free k (omega (arith, lt)) (subst (OccursIn bytes) (sym (get_or_default texts k [] o.0 lt ∙ o.1.2)) o.2)
