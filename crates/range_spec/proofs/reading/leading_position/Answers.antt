use Rattle.range_spec.proofs.Positions.{position_eight, position_more}
use Rattle.range_spec.proofs.reading.leading_position.Goals as goal

pub loop-value-preserved : goal.loop-value-preserved
loop-value-preserved c =
    rw (c.with_eight_digits.ensures, c.unwrap_or.ensures) (position_eight _ _ _ _ _ c.loop-value.invariant c.in-Some.ensures.found)

pub loop-digit-preserved : goal.loop-digit-preserved
loop-digit-preserved c =
    rw (c.with_digit.ensures, c.unwrap_or-in-Some-leading_digit.ensures) (position_more _ _ _ _ _ c.loop-digit.invariant c.in-Some-leading_digit.ensures.found)
