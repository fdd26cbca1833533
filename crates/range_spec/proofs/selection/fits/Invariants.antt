use Rattle.std.proofs.Common.{◌≡◌, ◌+◌, take}
use Rattle.std.specs.List.{sum_by}
use Rattle.range_spec.specs.Chosen.{size_of}
use Rattle.range_spec.proofs.selection.fits.Given as goal

abbrev pub invariant-loop-first : goal.invariant-loop-first
invariant-loop-first l = sum_by size_of (take l.first-index l.intervals) + l.room ≡ l.size
