-- Several bytes that are looked at, or read, at once.
use Rattle.std.proofs.Common.{◌≡◌, ℕ, ◌+◌, ◌-◌, ◌*◌, ◌^◌, ◌<◌, ◌≤◌, ◌↔◌, Bool, true, false, ◌&&◌, List, [], ◌∷◌, ◌++◌, length, take, drop, get_or, refl, arith, sym, subst, Some}
use Rattle.std.specs.Prelude.{All, IsTrue, MatchBool}
use Rattle.std.specs.List.{AllByRecursion}
use Rattle.std.specs.Char.{digit_value, IsAsciiDigit, IsNotAsciiDigit}
use Rattle.std.specs.Str.Parse.{AllDigits, digits_value}
use Rattle.std.proofs.lemmas.List.{length-take, take_all, take_more, take-append-drop}
use Rattle.std.proofs.lemmas.List.Elements.{All-get_or, All-more, All-pop, All-take, recursion_from_All}
use Rattle.std.proofs.lemmas.Int.Digits.{digits_value-lt, digits_value_more}
use Rattle.std.proofs.lemmas.Bool.Decides.{nat_tests}
use Rattle.std.proofs.Math.Nat.{pow-le-pow_right}
use Rattle.range_spec.specs.Reading.{AreDigitsBefore, AreSeparatorsBefore, IsDigit, IsReadTo, IsSeparator}
use Rattle.range_spec.proofs.Separators.{separator_found}

-- ---- looking

-- one element more, where `all` says whether the first i pass and `one` whether the next does
pub all_more : (P : ℕ → Type 0) (xs : List ℕ) (i : ℕ) (all one : Bool) → i < length xs → IsTrue all ↔ All P (take i xs) → IsTrue one ↔ P (get_or xs i 0)
    → IsTrue (all && one) ↔ All P (take (i + 1) xs)
all_more P xs i true one h front next = (
  (λ t. All-more P xs i 0 h (front.0 refl) (next.0 t)),
  (λ more. next.1 (All-pop P (take (i + 1) xs) (take i xs) (Some (get_or xs i 0)) (take_more xs i 0 h) more).1),
)
all_more P xs i false one h front next = (
  (λ t. cc),
  (λ more. front.1 (All-pop P (take (i + 1) xs) (take i xs) (Some (get_or xs i 0)) (take_more xs i 0 h) more).0),
)

-- at the end
pub all_looked_at : (P : ℕ → Type 0) (xs : List ℕ) (i : ℕ) (all : Bool) → length xs ≤ i → IsTrue all ↔ All P (take i xs) → IsTrue all ↔ All P xs
all_looked_at P xs i all h front = subst (λ l. IsTrue all ↔ All P l) (take_all i xs h) front

pub digit_test : (b : ℕ) (r : Bool) → MatchBool r (IsAsciiDigit b) (IsNotAsciiDigit b) → IsTrue r ↔ IsDigit b
digit_test b true m = ((λ t. grind (arith, nat_tests)), (λ d. refl))
digit_test b false m = ((λ t. cc), (λ d. absurd (grind (arith, nat_tests))))

-- ---- separators

separators_read : (text front rest after : List ℕ) → IsReadTo text [] rest → rest ≡ front ++ after → AllByRecursion IsSeparator front → IsReadTo text [] after
separators_read text [] rest after read e all = subst (IsReadTo text []) e read
separators_read text (b ∷ front) rest after read e all = separators_read text front (front ++ after) after (separator_found text rest b (front ++ after) read e all.0) refl all.1

-- separators, and then what follows them
pub separators_found : (text rest after : List ℕ) → IsReadTo text [] rest → AreSeparatorsBefore rest after → IsReadTo text [] after
separators_found text rest after read s = separators_read text s.separators rest after read s.parts s.all

pub separators_before : (text block rest : List ℕ) (n : ℕ) → block ≡ take n text → rest ≡ drop n text → All IsSeparator block → AreSeparatorsBefore text rest
separators_before text block rest n front back all = record {
  separators = block;
  parts = rw (front, back) (sym (take-append-drop n text));
  all = recursion_from_All IsSeparator block all;
}

-- ---- digits

all_digits_of : (ds : List ℕ) → AllByRecursion IsDigit ds → AllDigits 10 ds
all_digits_of [] h = tt
all_digits_of (d ∷ ds) h = (h.0, all_digits_of ds h.1)

pub digits_before : (text block rest : List ℕ) (value : ℕ) → block ≡ take 8 text → rest ≡ drop 8 text → length block ≡ 8 → All IsDigit block → value ≡ digits_value 10 block
    → AreDigitsBefore text value rest
digits_before text block rest value front back eight all is = record {
  digits = block;
  parts = rw (front, back) (sym (take-append-drop 8 text));
  eight = eight;
  decimal = all_digits_of block (recursion_from_All IsDigit block all);
  value_is = sym is;
}

-- ---- the value of eight digits

digit_is : (b : ℕ) → IsDigit b → digit_value b ≡ b - 48
digit_is b d = grind (arith, nat_tests)

pub value_small : (xs : List ℕ) (i : ℕ) → i < 8 → All IsDigit xs → digits_value 10 (take i xs) < 10 ^ 7
value_small xs i few all =
    let below = digits_value-lt 10 (take i xs) (all_digits_of (take i xs) (recursion_from_All IsDigit (take i xs) (All-take IsDigit i xs all))) in
    let short : length (take i xs) ≤ 7 = omega (arith, length-take i xs) in
    omega (arith, below, pow-le-pow_right {n = 10} (omega arith) short)

pub value_more : (xs : List ℕ) (i value : ℕ) → i < length xs → All IsDigit xs → value ≡ digits_value 10 (take i xs) → value * 10 + (get_or xs i 0 - 48) ≡ digits_value 10 (take (i + 1) xs)
value_more xs i value h all is =
    omega (arith, is, digit_is (get_or xs i 0) (All-get_or IsDigit xs i 0 h all), digits_value_more 10 xs i h)
