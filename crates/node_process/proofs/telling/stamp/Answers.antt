use Rattle.std.proofs.Common.{string_bytes, ◌≡◌, ℕ, ◌^◌, ◌<◌, Bool, false, Option, Some, List, ◌++◌, codes, append_assoc, ℤ, pos, ◌*ℤ◌, arith, inl, subst, sym, ap, FitsSigned, ◌∙◌}
use Rattle.std.proofs.lemmas.Result.{IfOk-weaker}
use Rattle.std.proofs.lemmas.Int.{to_z-of_z}
use mir.Syntax.{w128}
use mir.Val.{to_z, of_z}
use Rattle.jiff_core.specs.declared.civil.datetime.DateTime.{DateTime}
use Rattle.jiff_fmt.specs.Text.{date_text, time_text, datetime_text, zulu_text}
use Rattle.node_process.proofs.telling.stamp.Goals as goal

-- a small number is the same as a signed one
as_read : (n : ℕ) → n < 2 ^ 64 → to_z w128 n ≡ pos n
as_read n fits = grind arith

-- the nanoseconds of so many seconds don't overflow
nanos_of : (n : ℕ) (z : ℤ) → n < 2 ^ 64 → z ≡ to_z w128 (of_z w128 (to_z w128 n *ℤ pos 1_000_000_000))
    → z ≡ pos n *ℤ pos 1_000_000_000
nanos_of n z fits is =
    let plain = as_read n fits in
    let all : FitsSigned w128 (pos n *ℤ pos 1_000_000_000) = omega (arith, fits) in
    grind (arith, to_z-of_z)

-- what a printer writes that has these options
written : (options : Bool × ℕ × Option ℕ) (clock : DateTime) (text : List ℕ)
    → options ≡ (false, 84, Some 0)
    → text ≡ datetime_text options.0 options.1 options.2 clock ++ zulu_text options.0
    → text ≡ date_text clock.date ++ codes "T" ++ time_text (Some 0) clock.time ++ codes "Z"
written options clock text are is =
    let plain = subst (λ o. text ≡ datetime_text o.0 o.1 o.2 clock ++ zulu_text o.0) are is in
    plain ∙ ap (λ front. front ++ codes "Z") (sym (append_assoc (date_text clock.date) (codes "T") (time_text (Some 0) clock.time)))

pub returns : goal.returns
returns c =
    let shown = c.timestamp_text.ensures in
    let nanos = nanos_of c.args.seconds c.in-Ok.moment.nanosecond c.ranges.seconds.fits c.in-Ok.ensures.value in
    let printer = c.precision-printer.result in
    let options : (printer.lowercase, printer.separator, printer.precision) ≡ (false, 84, Some 0) = grind (arith, c.precision-printer.ensures, c.new.ensures) in
    IfOk-weaker c.format-2.result _ _
    (λ text is. inl (
      shown.0,
      shown.1 ∙ nanos,
      written (printer.lowercase, printer.separator, printer.precision) shown.0 (string_bytes text) options
          (is ∙ c.as_str.ensures.value ∙ shown.2),
    ))
    c.format-2.ensures.ok
