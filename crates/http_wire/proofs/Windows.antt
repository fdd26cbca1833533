-- Lemmas on the part of a list between two places.
use Rattle.std.proofs.Common.{◌≡◌, ℕ, ◌+◌, ◌-◌, ◌≤◌, List, ◌++◌, length, take, drop, slice_range, sym, ap, ◌∙◌, arith}
use Rattle.std.proofs.Math.Seq.{take-append-add}
use Rattle.std.proofs.lemmas.List.{drop-take, drop-drop, length-take-le, take-append-le}

-- what is left of the part without its first n
pub drop-slice_range : {X : Type 0} (n start end : ℕ) (xs : List X) → start + n ≤ end
    → drop n (slice_range xs start end) ≡ slice_range xs (start + n) end
drop-slice_range n start end xs h =
    let split : end - start ≡ n + (end - (start + n)) = omega arith in
    ap (λ k. drop n (take k (drop start xs))) split ∙ drop-take n (end - (start + n)) (drop start xs)
    ∙ ap (take (end - (start + n))) (drop-drop n start xs)

-- the front after a piece was written behind it
pub take_written : (end count : ℕ) (xs ys zs : List ℕ) → end ≤ length xs → count ≤ length ys
    → take (end + count) (take end xs ++ (ys ++ zs)) ≡ take end xs ++ take count ys
take_written end count xs ys zs h k =
    ap (λ n. take (n + count) (take end xs ++ (ys ++ zs))) (sym (length-take-le end xs h))
    ∙ take-append-add (take end xs) (ys ++ zs) count
    ∙ ap (λ u. take end xs ++ u) (take-append-le count ys zs k)
