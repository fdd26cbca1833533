use Rattle.std.proofs.Common.{◌≡◌, All, map, take}
use Rattle.range_reply.specs.Bodies.{stretch_of}
use Rattle.core_tests.proofs.tests.files.holds.Given as goal

abbrev pub invariant-loop-stretch : goal.invariant-loop-stretch
invariant-loop-stretch l =
    All (λ h. h.file ≡ l.cut.info.value) l.holds.items × (map stretch_of l.holds.items ≡ take l.stretch-index l.stretches)
