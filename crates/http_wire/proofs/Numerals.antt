-- Lemmas on the numeral of a length, digit by digit.
use Rattle.std.proofs.Common.{◌≡◌, ℕ, ◌+◌, ◌-◌, ◌*◌, ◌^◌, ◌<◌, ◌≤◌, List, length, take, get_or, ap, ◌∙◌, arith, lit≤}
use Rattle.std.specs.Char.{digit_value}
use Rattle.std.specs.Int.{IsInRange}
use Rattle.std.specs.Str.Parse.{digits_value, AllDigits}
use Rattle.std.proofs.lemmas.Str.{digit_value_digit}
use Rattle.std.proofs.lemmas.Int.Digits.{digits_value_more, digits_more}
use Rattle.std.proofs.lemmas.Str.Parse.{digits_value-take-le, digit_at}
use Rattle.std.proofs.lemmas.List.{take_all}
use Rattle.http_wire.specs.Fields.{WritesLength}

pub digit_is : (c : ℕ) → IsInRange 48 57 c → digit_value c ≡ c - 48
digit_is c h = omega (arith, digit_value_digit c h)

pub digit_is_small : (c : ℕ) → IsInRange 48 57 c → digit_value c < 10
digit_is_small c h = rw (digit_is c h) (omega arith)

-- each byte of a numeral is a digit
pub byte_is_digit : (text : List ℕ) (n i : ℕ) → WritesLength text n → i < length text → IsInRange 48 57 (get_or text i 0)
byte_is_digit text n i h lt = digit_at text i h.numeral.1 lt

-- the number so far fits, with one more digit
pub step_fits : (text : List ℕ) (n i value : ℕ) → WritesLength text n → i < length text → value ≡ digits_value 10 (take i text)
    → value * 10 + digit_value (get_or text i 0) < 2 ^ 64
step_fits text n i value h lt e =
    omega (arith, h.value, h.fits, digits_value-take-le 10 text (i + 1) (lit≤ tt), digits_value_more 10 text i lt, e)

-- the number with one more digit
pub step_value : (text : List ℕ) (i value next : ℕ) → i < length text → value ≡ digits_value 10 (take i text)
    → IsInRange 48 57 (get_or text i 0) → next ≡ value * 10 + (get_or text i 0 - 48) → next ≡ digits_value 10 (take (i + 1) text)
step_value text i value next lt e digit step =
    omega (arith, step, e, digits_value_more 10 text i lt, digit_is (get_or text i 0) digit)

pub step_digits : (text : List ℕ) (i : ℕ) → i < length text → AllDigits 10 (take i text) → IsInRange 48 57 (get_or text i 0) → AllDigits 10 (take (i + 1) text)
step_digits text i lt digits digit = digits_more 10 text i lt digits (digit_is_small (get_or text i 0) digit)

pub numeral_whole : (text : List ℕ) (i value : ℕ) → length text ≤ i → 0 < length text → value ≡ digits_value 10 (take i text)
    → AllDigits 10 (take i text) → value < 2 ^ 64 → WritesLength text value
numeral_whole text i value all some e digits fits = record {
  numeral = (some, rw take_all at digits);
  value = e ∙ ap (digits_value 10) (take_all i text all);
  fits = fits;
}
