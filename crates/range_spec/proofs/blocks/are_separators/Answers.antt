use Rattle.std.proofs.Common.{arith}
use Rattle.range_spec.specs.Reading.{IsSeparator}
use Rattle.range_spec.proofs.Runs.{all_looked_at, all_more}
use Rattle.range_spec.proofs.blocks.are_separators.Goals as goal

pub loop-byte-preserved : goal.loop-byte-preserved
loop-byte-preserved c =
    all_more IsSeparator c.args.block.now c.loop-byte.byte-index _ _ (omega (arith, c.told-block, c.loop-byte-test.true)) c.loop-byte.invariant (c.is_separator-all.ensures)

pub returns : goal.returns
returns c = all_looked_at IsSeparator c.args.block.now c.loop-byte.byte-index _ (omega (arith, c.told-block, c.loop-byte-test.false)) c.loop-byte.invariant
