use Rattle.std.proofs.Common.{arith}
use Rattle.range_spec.proofs.Runs.{value_more, value_small}
use Rattle.range_spec.proofs.blocks.value_of_digits.Goals as goal

pub overflow_mul-value : goal.overflow_mul-value
overflow_mul-value c = omega (arith, value_small c.args.block.now c.loop-byte.byte-index (omega arith) c.requires, c.loop-byte.invariant)

pub overflow_add-value : goal.overflow_add-value
overflow_add-value c = omega (arith, value_small c.args.block.now c.loop-byte.byte-index (omega arith) c.requires, c.loop-byte.invariant)

pub loop-byte-preserved : goal.loop-byte-preserved
loop-byte-preserved c = rw c.from.ensures (value_more c.args.block.now c.loop-byte.byte-index _ (omega (arith, c.told-block, c.loop-byte-test.true)) c.requires c.loop-byte.invariant)
