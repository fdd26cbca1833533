-- What changes in cells, and which side of that is written.
use Rattle.std.specs.Prelude.{List, map, Option, IsTrue, All}
use Rattle.host_names.specs.declared.cells.Cell.{Cell}
use Rattle.site_state.specs.declared.values.Value.{Value}
use Rattle.site_state.specs.declared.changes.Change.{Change}
use Rattle.site_state.specs.declared.changes.Side.{Side}
use Rattle.site_state.specs.declared.changes.Side.TheVariants.{Before, After}
use Rattle.site_state.specs.States.{may_stand}

-- the cells of the changes
abbrev pub cells_of : List Change → List Cell
cells_of changes = map (λ change. change.cell) changes

-- what the change has on that side
abbrev pub on_side : Side → Change → Option Value
on_side Before change = change.before
on_side After change = change.after

-- what the changes have on that side, by cell
abbrev pub writes : Side → List Change → List (Cell × Option Value)
writes side changes = map (λ change. (change.cell, on_side side change)) changes

-- each value that the changes have on that side is of its cell's kind
abbrev pub AreOfKindOn : Side → List Change → Type 0
AreOfKindOn side = All (λ change. IsTrue (may_stand change.cell (on_side side change)))
