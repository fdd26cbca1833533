use Rattle.std.proofs.Common.{ap, sym, ◌∙◌, filter}
use Rattle.std.specs.FinMap.{entries, entries-from_sorted}
use Rattle.host_names.specs.Cells.{cell_cmp}
use Rattle.persistent_maps.proofs.Entries.{is_sorted-from}
use Rattle.site_state.specs.States.{is_live_below}
use Rattle.site_state.proofs.states.State.below.Goals as goal

pub returns : goal.returns
returns c =
    c.range.ensures
    ∙ ap (filter (λ e. is_live_below c.args.site.now c.args.folder.now e.0)) (sym (entries-from_sorted cell_cmp _ (is_sorted-from cell_cmp _ c.self.invariant.are_items.sorted)) ∙ ap entries c.self.view_is)
