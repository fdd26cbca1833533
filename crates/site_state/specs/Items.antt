-- How a state is kept: its entries in a list.
use Rattle.std.specs.Prelude.{List, map, IsTrue}
use Rattle.std.specs.FinMap.{from_sorted}
use Rattle.std.specs.List.{AllByRecursion}
use Rattle.std.specs.List.Sorted.{IsStrictlySortedBy}
use Rattle.host_names.specs.Cells.{cell_cmp}
use Rattle.host_names.specs.declared.cells.Cell.{Cell}
use Rattle.site_state.specs.declared.values.Value.{Value}
use Rattle.site_state.specs.Named.{AliasesNamed}
use Rattle.site_state.specs.States.{is_of_kind}

-- the cells strictly rise, so that each is there once, and each value is of its cell's kind
pub record AreItems (items : List (Cell × Value)) : Type 0 where
  pub sorted : IsStrictlySortedBy cell_cmp (map (λ e. e.0) items)
  pub of_kind : AllByRecursion (λ e. IsTrue (is_of_kind e.0 e.1)) items

-- and each alias names a kept deploy of its site
pub record AreOfState (items : List (Cell × Value)) : Type 0 where
  pub are_items : AreItems items
  pub named : AliasesNamed (from_sorted items)
