use Rattle.std.proofs.Common.{Some, sym, subst, ◌∙◌}
use Rattle.std.specs.FinMap as finmap
use Rattle.host_names.specs.declared.cells.Cell.{Cell}
use Rattle.host_names.specs.declared.cells.Cell.TheVariants as cell
use Rattle.site_state.specs.declared.values.Value.TheVariants as value
use Rattle.site_change.specs.Changes.{same_cell}
use Rattle.site_change.specs.Differences.{Comparable}
use Rattle.site_change.proofs.Comparing.{free_for}
use Rattle.site_change.proofs.cell_commands.change_paths.Goals as goal

pub change_both-requires : goal.change_both-requires
change_both-requires c =
    let P : Cell → Type 0 = λ at. Comparable (finmap.get c.args.state.now at) (Some (value.Live c.in_ok-clone.field-0)) in
    record {
      apart = (λ i. same_cell (c.in_ok-left.ensures.copy i) (c.in_ok-reached.ensures.copy i)) ∙ c.requires.apart;
      one = tt;
      other = subst P (sym c.in_ok-reached.ensures.copy) (free_for (finmap.get c.args.state.now (cell.Live c.args.site.now c.args.target.now)) _ c.requires.free);
    }
