use Rattle.std.proofs.Common.{◌↔◌, All, IsTrue, take}
use Rattle.range_spec.specs.Reading.{IsDigit}
use Rattle.range_spec.proofs.blocks.are_digits.Given as goal

abbrev pub invariant-loop-byte : goal.invariant-loop-byte
invariant-loop-byte l = IsTrue l.all ↔ All IsDigit (take l.byte-index l.block)
