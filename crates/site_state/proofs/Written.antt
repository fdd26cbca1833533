-- What is in each cell after many writes.
use Rattle.std.proofs.Common.{◌≡◌, true, false, cond, List, [], ◌∷◌, Option, Some, refl, ap, ◌∙◌}
use Rattle.std.specs.FinMap as finmap
use Rattle.std.specs.List.Sorted.{IsStrictlySortedBy}
use Rattle.std.specs.Map.{keys_of}
use Rattle.std.specs.Option.{unwrap_or}
use Rattle.std.specs.Ordering.{eq_by_cmp}
use Rattle.std.proofs.lemmas.Map.Keys.{sorted_head, sorted_tail}
use Rattle.host_names.specs.declared.cells.Cell.{Cell}
use Rattle.host_names.specs.Cells.{cell_cmp}
use Rattle.host_names.specs.CellOrder.{cell_cmp_total, cell_cmp-IsAntisymmetric}
use Rattle.site_state.specs.declared.values.Value.{Value}
use Rattle.site_state.specs.States.{State, with_cell, with_cells}
use Rattle.persistent_maps.proofs.Edits.{at_key}
use Rattle.site_state.proofs.Items.{get-with_cell}

-- the cells and what is written into each
abbrev pub Writes : Type 0
Writes = List (Cell × Option Value)

abbrev pub Rise : Writes → Type 0
Rise cells = IsStrictlySortedBy cell_cmp (keys_of cells)

-- in a cell that is listed is what is listed, and in any other what was there before
pub get-with_cells : (state : State) (cells : Writes) (q : Cell) → Rise cells → finmap.get (with_cells state cells) q ≡ unwrap_or (finmap.find cell_cmp q cells) (finmap.get state q)
get-with_cells state [] q rise = refl
get-with_cells state (c ∷ cells) q rise =
    get-with_cells (with_cell state c.0 c.1) cells q (sorted_tail cell_cmp c.0 (keys_of cells) rise)
    ∙ ap (unwrap_or (finmap.find cell_cmp q cells)) (get-with_cell state c.0 c.1 q)
    ∙ elim (eq_by_cmp cell_cmp q c.0) as (λ b. eq_by_cmp cell_cmp q c.0 ≡ b → unwrap_or (finmap.find cell_cmp q cells) (cond b c.1 (finmap.get state q)) ≡ unwrap_or (cond b (Some c.1) (finmap.find cell_cmp q cells)) (finmap.get state q)) [
      | true ↦ λ e. ap (λ found. unwrap_or found c.1) (at_key cell_cmp_total cell_cmp-IsAntisymmetric q c.0 cells (sorted_head cell_cmp c.0 (keys_of cells) rise) e)
      | false ↦ λ e. refl
    ] refl
