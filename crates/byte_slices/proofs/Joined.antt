-- Slices that are written one after another.
use Rattle.std.proofs.Common.{◌≡◌, ℕ, ◌+◌, ◌-◌, ◌≤◌, inl, inr, List, [], ◌++◌, length, take, drop, refl, sym, ap, ◌∙◌, append-nil, arith}
use Rattle.std.proofs.Math.Seq.{take-append-add}
use Rattle.std.proofs.lemmas.Bool.{cases_lt}
use Rattle.std.proofs.lemmas.List.{append_cancel_left, drop_all, drop-append-le, drop-drop, take-append-drop, take-append-le, take_all, take_at}

drop_front : (xs ys : List ℕ) → drop (length xs) (xs ++ ys) ≡ ys
drop_front xs ys =
    append_cancel_left xs (drop (length xs) (xs ++ ys)) ys
    (ap (λ u. u ++ drop (length xs) (xs ++ ys)) (sym (take_at xs ys (length xs) refl)) ∙ take-append-drop (length xs) (xs ++ ys))

drop_past : (n : ℕ) (xs ys : List ℕ) → length xs ≤ n → drop n (xs ++ ys) ≡ drop n xs ++ drop (n - length xs) ys
drop_past n xs ys past =
    let k : ℕ = n - length xs in
    let sum : n ≡ length xs + k = omega (arith, past) in
    ap (λ m. drop m (xs ++ ys)) sum ∙ sym (drop-drop k (length xs) (xs ++ ys)) ∙ ap (drop k) (drop_front xs ys) ∙ ap (λ u. u ++ drop k ys) (sym (drop_all n xs past))

pub drop_over : (n : ℕ) (xs ys : List ℕ) → drop n (xs ++ ys) ≡ drop n xs ++ drop (n - length xs) ys
drop_over n xs ys = elim (cases_lt n (length xs)) [
  | inl lt ↦ (let none : 0 ≡ n - length xs = omega (arith, lt) in drop-append-le n xs ys (omega (arith, lt)) ∙ ap (λ m. drop n xs ++ drop m ys) none)
  | inr ge ↦ drop_past n xs ys ge
]

pub take_over : (n : ℕ) (xs ys : List ℕ) → take n (xs ++ ys) ≡ take n xs ++ take (n - length xs) ys
take_over n xs ys = elim (cases_lt n (length xs)) [
  | inl lt ↦ (let none : 0 ≡ n - length xs = omega (arith, lt) in take-append-le n xs ys (omega (arith, lt)) ∙ sym (append-nil (take n xs)) ∙ ap (λ k. take n xs ++ take k ys) none)
  | inr ge ↦ (let sum : n ≡ length xs + (n - length xs) = omega (arith, ge) in
      ap (λ k. take k (xs ++ ys)) sum ∙ take-append-add xs ys (n - length xs) ∙ ap (λ u. u ++ take (n - length xs) ys) (sym (take_all n xs ge)))
]

-- so many bytes are dropped, one slice after another
pub drop_four : (n k l m : ℕ) (a b c d : List ℕ) → k ≡ n - length a → l ≡ k - length b → m ≡ l - length c
    → drop n a ++ (drop k b ++ (drop l c ++ drop m d)) ≡ drop n (a ++ (b ++ (c ++ d)))
drop_four n k l m a b c d is_k is_l is_m =
    ap (λ j. drop n a ++ (drop k b ++ (drop l c ++ drop j d))) is_m
    ∙ ap (λ u. drop n a ++ (drop k b ++ u)) (sym (drop_over l c d))
    ∙ ap (λ j. drop n a ++ (drop k b ++ drop j (c ++ d))) is_l
    ∙ ap (λ u. drop n a ++ u) (sym (drop_over k b (c ++ d)))
    ∙ ap (λ j. drop n a ++ drop j (b ++ (c ++ d))) is_k
    ∙ sym (drop_over n a (b ++ (c ++ d)))

-- or taken
pub take_four : (n k l m : ℕ) (a b c d : List ℕ) → k ≡ n - length a → l ≡ k - length b → m ≡ l - length c
    → take n a ++ (take k b ++ (take l c ++ take m d)) ≡ take n (a ++ (b ++ (c ++ d)))
take_four n k l m a b c d is_k is_l is_m =
    ap (λ j. take n a ++ (take k b ++ (take l c ++ take j d))) is_m
    ∙ ap (λ u. take n a ++ (take k b ++ u)) (sym (take_over l c d))
    ∙ ap (λ j. take n a ++ (take k b ++ take j (c ++ d))) is_l
    ∙ ap (λ u. take n a ++ u) (sym (take_over k b (c ++ d)))
    ∙ ap (λ j. take n a ++ take j (b ++ (c ++ d))) is_k
    ∙ sym (take_over n a (b ++ (c ++ d)))

pub nothing_in : (xs : List ℕ) → length xs ≡ 0 → xs ≡ []
nothing_in xs none = drop_all 0 xs (omega (arith, none))
