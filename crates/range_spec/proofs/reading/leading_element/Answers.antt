use Rattle.range_spec.proofs.Tails.{element_read, no_end_read, no_spec_read}
use Rattle.range_spec.proofs.reading.leading_element.Goals as goal

pub returns-in_err-spec-clause-none : goal.returns-in_err-spec-clause-none
returns-in_err-spec-clause-none c = rw c.from_residual.ensures (no_spec_read _ c.requires c.in_err-spec.ensures.none)

pub returns-then-not-ends_element-clause-none : goal.returns-then-not-ends_element-clause-none
returns-then-not-ends_element-clause-none c =
    no_end_read _ _ _ _ c.in_ok-spec.ensures.found c.in_ok-spec.ensures.ended c.after_blanks-rest.ensures.blanks c.after_blanks-rest.ensures.ended
    (λ ends. let is = c.ends_element.ensures.1 ends in let not = c.if-not-ends_element.true in cc)

pub returns-clause-found : goal.returns-clause-found
returns-clause-found c =
    element_read _ _ _ _ c.in_ok-spec.ensures.found c.in_ok-spec.ensures.ended c.after_blanks-rest.ensures.blanks c.after_blanks-rest.ensures.ended
    (c.ends_element.ensures.0 c.if-not-ends_element.false)
