-- What `parse` answers for the text of a number.
use Rattle.std.proofs.Common.{◌≡◌, ℕ, ◌<◌, Bool, true, false, List, [], ◌∷◌, get_or, Result, Ok, Err, refl, arith, rules}
use Rattle.std.specs.Prelude.{nat_le, not, ◌&&◌, if◌then◌else◌}
use Rattle.std.specs.Char.{is_digit}
use Rattle.std.specs.List.{list_all}
use Rattle.std.specs.Result.{result_unwrap_or}
use Rattle.std.specs.Str.Parse.{ParsesUnsigned, digits_value}
use Rattle.std.proofs.lemmas.Bool.{ne_eqb, leb-true, false≢true, true≢false}
use Rattle.std.proofs.lemmas.Str.Parse.{IsDigitsTest, IsNumeralModel, numerals_by_value, parse_plain}
use Rattle.host_api.specs.Numbers.{greatest_number, number_of}

tells : IsDigitsTest (λ ds. list_all (λ c. is_digit c 10) ds ≡ true)
tells = search rules

own : IsNumeralModel (λ ds. list_all (λ c. is_digit c 10) ds ≡ true) (digits_value 10)
own = numerals_by_value _ tells

-- digits after a first one that is not 0 write their value, if it is not too great
of_digits : (first digits within : Bool) (v : ℕ) → first ≡ false → digits ≡ true → (if not first && digits && within then v else 0) ≡ (if within then v else 0)
of_digits true digits within v e f = absurd (true≢false e)
of_digits false false within v e f = absurd (false≢true f)
of_digits false true within v e f = refl

-- and no other text writes a number
of_others : (first digits within : Bool) (v : ℕ) → (digits ≡ true → within ≡ true → ⊥) → (if not first && digits && within then v else 0) ≡ 0
of_others true digits within v none = refl
of_others false false within v none = refl
of_others false true false v none = refl
of_others false true true v none = absurd (none refl refl)

-- the number of a text that begins with none of `+` and 0 is the one that is read, if it is not too great
pub number_of_parsed : {E : Type 0} (text : List ℕ) (r : Result ℕ E) → 48 < get_or text 0 0 → ParsesUnsigned 64 10 text r → number_of text ≡ (if nat_le (result_unwrap_or r 0) greatest_number then result_unwrap_or r 0 else 0)
number_of_parsed [] r first h = absurd (omega arith)
number_of_parsed {E = E} (b ∷ text) (Ok n) first h =
    let p = parse_plain own {E = E} 64 (b ∷ text) (Ok n) h (omega arith) in
    rw p.1 (of_digits _ _ _ _ (ne_eqb b 48 (omega arith)) p.0.0)
number_of_parsed (b ∷ text) (Err e) first h =
    let p = parse_plain own 64 (b ∷ text) (Err e) h (omega arith) in
    of_others _ _ _ _ (λ digits within. p (digits, omega arith, omega (arith, leb-true _ _ within)))
