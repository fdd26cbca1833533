use Rattle.std.proofs.Common.{arith, get_or}
use Rattle.range_spec.specs.Reading.{IsDigit}
use Rattle.range_spec.proofs.Runs.{all_looked_at, all_more, digit_test}
use Rattle.range_spec.proofs.blocks.are_digits.Goals as goal

pub loop-byte-preserved : goal.loop-byte-preserved
loop-byte-preserved c =
    all_more IsDigit c.args.block.now c.loop-byte.byte-index _ _ (omega (arith, c.told-block, c.loop-byte-test.true)) c.loop-byte.invariant
    (digit_test (get_or c.args.block.now c.loop-byte.byte-index 0) _ c.is_ascii_digit-all.ensures.cases)

pub returns : goal.returns
returns c = all_looked_at IsDigit c.args.block.now c.loop-byte.byte-index _ (omega (arith, c.told-block, c.loop-byte-test.false)) c.loop-byte.invariant
