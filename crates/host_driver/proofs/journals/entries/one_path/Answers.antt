use Rattle.std.specs.List.Sorted.{IsStrictlySortedBy}
use Rattle.host_driver.proofs.journals.entries.one_path.Goals as goal

pub from_sorted-requires : goal.from_sorted-requires
unfolding IsStrictlySortedBy
from_sorted-requires c = rw c.in_ok-vec.ensures.items (tt, tt)
