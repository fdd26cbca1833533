use Rattle.range_spec.proofs.Runs.{separators_before}
use Rattle.range_spec.proofs.blocks.after_sixteen_separators.Goals as goal

pub returns-clause-found : goal.returns-clause-found
returns-clause-found c =
    separators_before _ _ _ 16 c.in_ok-block.ensures.cases.0 c.in_ok-block.ensures.cases.1 (c.are_separators.ensures.0 c.if-not-are_separators.false)
