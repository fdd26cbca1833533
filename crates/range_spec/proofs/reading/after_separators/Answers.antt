use Rattle.range_spec.proofs.Runs.{separators_found}
use Rattle.range_spec.proofs.Separators.{separator_found}
use Rattle.range_spec.proofs.reading.after_separators.Goals as goal

pub loop-after-preserved : goal.loop-after-preserved
loop-after-preserved c = separators_found _ _ _ c.loop-after.invariant c.in-Some.ensures.found

pub loop-byte-preserved : goal.loop-byte-preserved
loop-byte-preserved c =
    separator_found _ _ _ _ c.loop-byte.invariant c.in-Some-split_first.ensures.cases.0 (c.is_separator.ensures.0 c.if-is_separator.true)
