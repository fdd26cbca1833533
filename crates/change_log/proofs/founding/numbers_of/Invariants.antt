use Rattle.std.proofs.Common.{◌≡◌, ◌++◌, length}
use Rattle.std.specs.FinMap as map
use Rattle.change_log.specs.Founding.{numbers_in}
use Rattle.change_log.proofs.founding.numbers_of.Given as goal

abbrev pub invariant-cells : goal.invariant-cells
invariant-cells l = l.numbers.items ++ numbers_in l.left ≡ numbers_in (map.entries l.names)

abbrev pub decreases-cells : goal.decreases-cells
decreases-cells l = length l.left
