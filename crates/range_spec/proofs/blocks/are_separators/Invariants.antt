use Rattle.std.proofs.Common.{◌↔◌, All, IsTrue, take}
use Rattle.range_spec.specs.Reading.{IsSeparator}
use Rattle.range_spec.proofs.blocks.are_separators.Given as goal

abbrev pub invariant-loop-byte : goal.invariant-loop-byte
invariant-loop-byte l = IsTrue l.all ↔ All IsSeparator (take l.byte-index l.block)
