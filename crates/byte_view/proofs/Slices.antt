-- Parts of lists that are joined, and parts of parts.
use Rattle.std.proofs.Common.{◌≡◌, ℕ, ◌+◌, ◌-◌, ◌≤◌, List, [], ◌∷◌, ◌++◌, length, take, drop, zero, suc, sym, ap, ◌∙◌, arith}
use Rattle.std.proofs.Math.Seq.{take-nil, drop-nil}
use Rattle.std.proofs.lemmas.List.{length-drop, drop-drop, drop-map, take-map, take-take}
use Rattle.std.proofs.lemmas.Slice.{between_is}
use Rattle.std.specs.Prelude.{map, slice_range}

module _ {X : Type 0} where
  take-append : (n : ℕ) (xs ys : List X) → take n (xs ++ ys) ≡ take n xs ++ take (n - length xs) ys
  take-append zero xs ys = let e : zero ≡ zero - length xs = omega arith in ap (λ k. take zero xs ++ take k ys) e
  take-append (suc n) [] ys = let e : suc n ≡ suc n - zero = omega arith in ap (λ k. take k ys) e
  take-append (suc n) (x ∷ xs) ys =
      let e : n - length xs ≡ suc n - suc (length xs) = omega arith in ap (λ l. x ∷ l) (take-append n xs ys ∙ ap (λ k. take n xs ++ take k ys) e)

  drop-append : (n : ℕ) (xs ys : List X) → drop n (xs ++ ys) ≡ drop n xs ++ drop (n - length xs) ys
  drop-append zero xs ys = let e : zero ≡ zero - length xs = omega arith in ap (λ k. xs ++ drop k ys) e
  drop-append (suc n) [] ys = let e : suc n ≡ suc n - zero = omega arith in ap (λ k. drop k ys) e
  drop-append (suc n) (x ∷ xs) ys =
      let e : n - length xs ≡ suc n - suc (length xs) = omega arith in drop-append n xs ys ∙ ap (λ k. drop n xs ++ drop k ys) e

  -- a part of two lists
  pub slice_range-append : (xs ys : List X) (a b : ℕ) → slice_range (xs ++ ys) a b ≡ slice_range xs a b ++ slice_range ys (a - length xs) (b - length xs)
  slice_range-append xs ys a b =
      let rest = length-drop a xs in
      ap (take (b - a)) (drop-append a xs ys) ∙ take-append (b - a) (drop a xs) (drop (a - length xs) ys)
      ∙ ap (λ k. take (b - a) (drop a xs) ++ take k (drop (a - length xs) ys)) (omega (arith, rest))

  pub slice_range-nil : (a b : ℕ) → slice_range {X = X} [] a b ≡ []
  slice_range-nil a b = ap (take (b - a)) (drop-nil a) ∙ take-nil (b - a)

  -- a part of a part
  pub slice_range-within : (xs : List X) (d m a b : ℕ) → b ≤ m → slice_range (take m (drop d xs)) a b ≡ slice_range xs (d + a) (d + b)
  slice_range-within xs d m a b le =
      between_is (take m (drop d xs)) a b ∙ ap (drop a) (take-take b m (drop d xs) le) ∙ sym (between_is (drop d xs) a b)
      ∙ ap (take (b - a)) (drop-drop a d xs) ∙ ap (λ k. take k (drop (d + a) xs)) (omega arith)

  pub slice_range-slice_range : (xs : List X) (a b c d : ℕ) → a ≤ c → a ≤ d → d ≤ b → slice_range (slice_range xs a b) (c - a) (d - a) ≡ slice_range xs c d
  slice_range-slice_range xs a b c d from till to =
      slice_range-within xs a (b - a) (c - a) (d - a) (omega arith)
      ∙ (let e : a + (c - a) ≡ c = omega arith in let f : a + (d - a) ≡ d = omega arith in ap (λ k. slice_range xs k (a + (d - a))) e ∙ ap (slice_range xs c) f)

  pub slice_range-map : {Y : Type 0} (f : X → Y) (xs : List X) (a b : ℕ) → slice_range (map f xs) a b ≡ map f (slice_range xs a b)
  slice_range-map f xs a b = ap (take (b - a)) (drop-map f a xs) ∙ take-map f (b - a) (drop a xs)
