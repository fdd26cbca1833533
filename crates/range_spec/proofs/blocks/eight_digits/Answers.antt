use Rattle.std.proofs.Common.{ap, arith, length}
use Rattle.std.proofs.lemmas.List.{length-take}
use Rattle.range_spec.proofs.Runs.{digits_before}
use Rattle.range_spec.proofs.blocks.eight_digits.Goals as goal

pub returns-clause-found : goal.returns-clause-found
returns-clause-found c =
    digits_before _ _ _ _ c.in_ok-block.ensures.cases.0 c.in_ok-block.ensures.cases.1
    (omega (arith, ap length c.in_ok-block.ensures.cases.0, length-take 8 c.args.text.now, c.in_ok-block.ensures.cases.2))
    (c.are_digits.ensures.0 c.if-not-are_digits.false) c.value_of_digits.ensures
