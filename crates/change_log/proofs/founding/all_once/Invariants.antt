use Rattle.std.proofs.Common.{◌≡◌, ℕ, List, [], length}
use Rattle.std.specs.BTreeSet.{contains}
use Rattle.std.specs.Ordering.{nat_cmp}
use Rattle.change_log.specs.Founding.{all_once, is_listed}
use Rattle.change_log.proofs.founding.all_once.Given as goal

-- the numbers before these are those that were seen
abbrev pub invariant-numbers : goal.invariant-numbers
invariant-numbers l =
    (front : List ℕ) × ((m : ℕ) → contains nat_cmp l.seen m ≡ is_listed front m) × (all_once front l.left ≡ all_once [] l.fn.numbers)

abbrev pub decreases-numbers : goal.decreases-numbers
decreases-numbers l = length l.left
