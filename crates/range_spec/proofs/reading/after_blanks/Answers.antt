use Rattle.range_spec.proofs.Separators.{blank_found}
use Rattle.range_spec.proofs.reading.after_blanks.Goals as goal

pub loop-byte-preserved : goal.loop-byte-preserved
loop-byte-preserved c =
    blank_found _ _ _ _ c.loop-byte.invariant c.in-Some.ensures.cases.0 (c.is_blank.ensures.0 c.if-is_blank.true)
