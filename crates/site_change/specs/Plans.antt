-- The difference of two states.
use Rattle.std.specs.Prelude.{◌≡◌, ◌≢◌, List, map, not, true}
use Rattle.std.specs.FinMap as map
use Rattle.std.specs.List.{AllByRecursion, list_all}
use Rattle.std.specs.List.Sorted.{IsStrictlySortedBy}
use Rattle.host_names.specs.Cells.{cell_cmp}
use Rattle.host_names.specs.declared.cells.Cell.{Cell}
use Rattle.site_state.specs.States.{State}
use Rattle.site_state.specs.declared.changes.Change.{Change}
use Rattle.site_change.specs.Changes.{same_cell}

-- the cell has one thing in the one state and another in the other
abbrev pub IsChange : State → State → Change → Type 0
IsChange state after change = (change.before ≡ map.get state change.cell) × (change.after ≡ map.get after change.cell) × (change.before ≢ change.after)

-- The changes are those of all cells in which the two states differ, by cell.
pub record IsDifference (state after : State) (changes : List Change) : Type 0 where
  pub ordered : IsStrictlySortedBy cell_cmp (map (λ change. change.cell) changes)
  pub each : AllByRecursion (IsChange state after) changes
  pub others : (c : Cell) → list_all (λ change. not (same_cell c change.cell)) changes ≡ true → map.get after c ≡ map.get state c
