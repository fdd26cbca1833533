use Rattle.std.proofs.Common.{◌≡◌, drop}
use Rattle.host_names.specs.Cells.{cell_cmp}
use Rattle.persistent_maps.specs.Edits.{edited_by}
use Rattle.site_state.specs.Changes.{writes}
use Rattle.site_state.proofs.changes.written_in_turn.Given as goal

abbrev pub invariant-changes : goal.invariant-changes
invariant-changes l = edited_by cell_cmp l.copy (writes l.side (drop l.change-index l.changes)) ≡ edited_by cell_cmp l.fn.cells (writes l.fn.side l.fn.changes)
