use Rattle.std.proofs.Common.{◌≡◌, ◌∙◌, sym, length, arith, get_or}
use Rattle.std.specs.Int.{IsInRange}
use Rattle.std.proofs.lemmas.Bool.{eqb-false}
use Rattle.http_wire.proofs.Numerals.{byte_is_digit, digit_is, step_fits, step_value, step_digits, numeral_whole}
use Rattle.http_wire.proofs.lengths.read_length.Goals as goal

pub returns-then-not-is_ascii_digit-clause-none : goal.returns-then-not-is_ascii_digit-clause-none
returns-then-not-is_ascii_digit-clause-none c n h =
    let digit = byte_is_digit c.args.text.now n c.loop-byte.byte-index h c.loop-byte-test.true in
    let out = c.if-not-is_ascii_digit.ensures.cases in
    omega arith

pub returns-in_err-checked_mul-clause-none : goal.returns-in_err-checked_mul-clause-none
returns-in_err-checked_mul-clause-none c = rw c.from_residual.ensures (λ n h.
    let fits = step_fits c.args.text.now n c.loop-byte.byte-index c.loop-byte.value h c.loop-byte-test.true c.loop-byte.invariant.0 in
    c.in_err-checked_mul.ensures (omega arith))

pub returns-in_err-value-clause-none : goal.returns-in_err-value-clause-none
returns-in_err-value-clause-none c = rw c.from_residual-in_err-value.ensures (λ n h.
    let fits = step_fits c.args.text.now n c.loop-byte.byte-index c.loop-byte.value h c.loop-byte-test.true c.loop-byte.invariant.0 in
    let digit = byte_is_digit c.args.text.now n c.loop-byte.byte-index h c.loop-byte-test.true in
    c.in_err-value.ensures (omega (arith, c.in_ok-checked_mul.ensures.1, c.from.ensures, digit_is (get_or c.args.text.now c.loop-byte.byte-index 0) digit)))

pub loop-byte-preserved : goal.loop-byte-preserved
loop-byte-preserved c =
    let text = c.args.text.now in
    let i = c.loop-byte.byte-index in
    let digit : IsInRange 48 57 (get_or text i 0) = c.if-not-is_ascii_digit.ensures.cases in (
      step_value text i c.loop-byte.value c.in_ok-value.value c.loop-byte-test.true c.loop-byte.invariant.0 digit
          (omega (arith, c.in_ok-value.ensures.1, c.in_ok-checked_mul.ensures.1, c.from.ensures)),
      step_digits text i c.loop-byte-test.true c.loop-byte.invariant.1 digit,
      omega (arith, c.in_ok-value.ensures.0, c.in_ok-value.ensures.1),
    )

pub returns-clause-some : goal.returns-clause-some
returns-clause-some c =
    let some : length c.args.text.now ≡ 0 → ⊥ = eqb-false (length c.args.text.now) 0 (sym c.is_empty.ensures ∙ c.if-is_empty.false) in
    numeral_whole c.args.text.now c.loop-byte.byte-index c.loop-byte.value c.loop-byte-test.false (omega arith) c.loop-byte.invariant.0 c.loop-byte.invariant.1 c.loop-byte.invariant.2
