-- A position read digit by digit.
use Rattle.std.proofs.Common.{◌≡◌, ℕ, ◌+◌, ◌-◌, ◌*◌, ◌^◌, ◌<◌, min, List, [], ◌∷◌, ◌++◌, arith, append_assoc, length, length-append, ◌∙◌, ap, refl, sym, Option, Some, None}
use Rattle.std.specs.Prelude.{unwrap_or}
use Rattle.std.proofs.lemmas.Int.Digits.{digits_value_push, digits_push}
use Rattle.std.proofs.Math.Nat.{pow-suc, pow-zero}
use Rattle.std.specs.Char.{digit_value}
use Rattle.std.specs.Str.Parse.{AllDigits, digits_value, digits_value_after}
use Rattle.range_spec.specs.Asks.{IsPosition}
use Rattle.range_spec.specs.Reading.{AreDigitsBefore, IsDigitBefore, IsPositionBefore, IsPositionIfAny}

-- the value with one more digit, where both are cut to the greatest position
capped : (v p d m : ℕ) → p ≡ min v m → min (p * 10 + d) m ≡ min (v * 10 + d) m
capped v p d m h = omega arith

-- the digits with one more
more_digits : (digits : List ℕ) (position : Option ℕ) (byte digit : ℕ) → IsPositionIfAny digits position → digit_value byte ≡ digit → digit < 10
    → IsPosition (digits ++ byte ∷ []) (min (unwrap_or position 0 * 10 + digit) (2 ^ 64 - 1))
more_digits digits None byte digit is value small = rw is (record {
  numeral = (omega arith, (omega arith, tt));
  value = omega arith;
})
more_digits digits (Some position) byte digit is value small = record {
  numeral = (omega (arith, length-append digits (byte ∷ [])), digits_push 10 digits byte is.numeral.1 (omega arith));
  value = rw (digits_value_push 10 digits byte, value) (capped (digits_value 10 digits) position digit (2 ^ 64 - 1) is.value);
}

-- one more digit
pub position_more : (text : List ℕ) (position : Option ℕ) (digit : ℕ) (rest after : List ℕ) → IsPositionBefore text position rest → IsDigitBefore rest digit after
    → IsPositionBefore text (Some (min (unwrap_or position 0 * 10 + digit) (2 ^ 64 - 1))) after
position_more text position digit rest after p d = record {
  digits = p.digits ++ d.byte ∷ [];
  parts = p.parts ∙ ap (λ t. p.digits ++ t) d.parts ∙ sym (append_assoc p.digits (d.byte ∷ []) after);
  position_is = more_digits p.digits position d.byte digit p.position_is d.value_is d.small;
}

-- ---- eight more digits

-- the value of digits that begin with this value
value_after : (n : ℕ) (ds : List ℕ) → digits_value_after 10 n ds ≡ n * 10 ^ length ds + digits_value 10 ds
value_after n [] = omega (arith, ap (λ x. n * x) (pow-zero 10))
value_after n (d ∷ ds) =
    let step : digits_value_after 10 n (d ∷ ds) ≡ digits_value_after 10 (n * 10 + digit_value d) ds = refl in
    let first : 0 * 10 + digit_value d ≡ digit_value d = omega arith in
    let own : digits_value 10 (d ∷ ds) ≡ digits_value_after 10 (digit_value d) ds = ap (λ m. digits_value_after 10 m ds) first in
    omega (arith, step, own, ap (λ x. n * x) (pow-suc 10 (length ds)), value_after (n * 10 + digit_value d) ds, value_after (digit_value d) ds)

digits_value_append : (xs ys : List ℕ) (n : ℕ) → digits_value_after 10 n (xs ++ ys) ≡ digits_value_after 10 (digits_value_after 10 n xs) ys
digits_value_append [] ys n = refl
digits_value_append (x ∷ xs) ys n = digits_value_append xs ys (n * 10 + digit_value x)

digits_append : (xs ys : List ℕ) → AllDigits 10 xs → AllDigits 10 ys → AllDigits 10 (xs ++ ys)
digits_append [] ys h k = k
digits_append (x ∷ xs) ys h k = (h.0, digits_append xs ys h.1 k)

value_append : (xs ys : List ℕ) → length ys ≡ 8 → digits_value 10 (xs ++ ys) ≡ digits_value 10 xs * 10 ^ 8 + digits_value 10 ys
value_append xs ys eight =
    digits_value_append xs ys 0 ∙ value_after (digits_value 10 xs) ys ∙ ap (λ n. digits_value 10 xs * 10 ^ n + digits_value 10 ys) eight

-- the value with eight more digits, where both are cut to the greatest position
capped_eight : (v p d m : ℕ) → p ≡ min v m → min (p * 10 ^ 8 + d) m ≡ min (v * 10 ^ 8 + d) m
capped_eight v p d m h = omega arith

-- the digits with eight more
eight_more : (digits : List ℕ) (position : Option ℕ) (own : List ℕ) (value : ℕ) → IsPositionIfAny digits position → length own ≡ 8 → AllDigits 10 own → digits_value 10 own ≡ value
    → IsPosition (digits ++ own) (min (unwrap_or position 0 * 10 ^ 8 + value) (2 ^ 64 - 1))
eight_more digits None own value is eight decimal value_is = rw is (record {
  numeral = (omega (arith, eight), decimal);
  value = omega (arith, value_is);
})
eight_more digits (Some position) own value is eight decimal value_is = record {
  numeral = (omega (arith, eight, length-append digits own), digits_append digits own is.numeral.1 decimal);
  value = rw (value_append digits own eight, value_is) (capped_eight (digits_value 10 digits) position value (2 ^ 64 - 1) is.value);
}

-- eight more digits
pub position_eight : (text : List ℕ) (position : Option ℕ) (value : ℕ) (rest after : List ℕ) → IsPositionBefore text position rest → AreDigitsBefore rest value after
    → IsPositionBefore text (Some (min (unwrap_or position 0 * 10 ^ 8 + value) (2 ^ 64 - 1))) after
position_eight text position value rest after p d = record {
  digits = p.digits ++ d.digits;
  parts = p.parts ∙ ap (λ t. p.digits ++ t) d.parts ∙ sym (append_assoc p.digits d.digits after);
  position_is = eight_more p.digits position d.digits value p.position_is d.eight d.decimal d.value_is;
}
