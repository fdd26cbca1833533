use Rattle.std.proofs.Common.{◌≡◌, [], length, ap, ◌∙◌}
use Rattle.std.specs.FinMap.{empty, empty_of_len, from_sorted, len-entries, entries-from_sorted}
use Rattle.std.specs.List.Sorted.{IsStrictlySortedBy}
use Rattle.host_names.specs.Cells.{cell_cmp}
use Rattle.change_log.specs.Bases.{Names}
use Rattle.change_log.proofs.names.Names.new.Goals as goal

abbrev none : Names
none = from_sorted []

is_empty : none ≡ empty
unfolding IsStrictlySortedBy
is_empty = empty_of_len none (len-entries none ∙ ap length (entries-from_sorted cell_cmp [] tt))

pub invariant_of-result : goal.invariant_of-result
unfolding IsStrictlySortedBy
invariant_of-result c = rw c.new.ensures (record { sorted = tt; lawful = tt })

pub returns : goal.returns
returns c = rw c.new.ensures is_empty
