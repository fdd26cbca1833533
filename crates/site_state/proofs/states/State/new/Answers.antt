use Rattle.std.proofs.Common.{◌≡◌, [], length, sym, ap, subst, ◌∙◌}
use Rattle.std.specs.FinMap.{empty, empty_of_len, from_sorted, len-entries, entries-from_sorted}
use Rattle.std.specs.List.Sorted.{IsStrictlySortedBy}
use Rattle.host_names.specs.Cells.{cell_cmp}
use Rattle.site_state.specs.Named.{AliasesNamed}
use Rattle.site_state.specs.States.{State}
use Rattle.site_state.proofs.Named.{named_empty}
use Rattle.site_state.proofs.states.State.new.Goals as goal

abbrev none : State
none = from_sorted []

is_empty : none ≡ empty
unfolding IsStrictlySortedBy
is_empty = empty_of_len none (len-entries none ∙ ap length (entries-from_sorted cell_cmp [] tt))

pub invariant_of-result : goal.invariant_of-result
unfolding IsStrictlySortedBy
invariant_of-result c = rw c.new.ensures (record { are_items = record { sorted = tt; of_kind = tt }; named = subst AliasesNamed (sym is_empty) named_empty })

pub returns : goal.returns
returns c = rw c.new.ensures is_empty
