-- How the names of a base are kept: in a list.
use Rattle.std.specs.Prelude.{◌≡◌, ℕ, ◌≤◌, List, map, IsTrue, Some}
use Rattle.std.specs.List.{AllByRecursion}
use Rattle.std.specs.List.Sorted.{IsStrictlySortedBy}
use Rattle.host_names.specs.Cells.{cell_cmp}
use Rattle.host_names.specs.declared.cells.Cell.{Cell}
use Rattle.change_log.specs.Bases.{deploy_of, is_of_kind}
use Rattle.change_log.specs.declared.names.Name.{Name}

-- the name is of the cell's kind, and a deploy's number is 1 or more
abbrev pub IsLawful : Cell → Name → Type 0
IsLawful c v = IsTrue (is_of_kind c v) × ((n : ℕ) → deploy_of c ≡ Some n → 1 ≤ n)

-- the cells strictly rise, so that each is there once, and each name is lawful
pub record AreItems (items : List (Cell × Name)) : Type 0 where
  pub sorted : IsStrictlySortedBy cell_cmp (map (λ e. e.0) items)
  pub lawful : AllByRecursion (λ e. IsLawful e.0 e.1) items
