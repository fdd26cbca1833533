use Rattle.std.proofs.Common.{List, sym, subst}
use Rattle.std.specs.List.{AllByRecursion}
use Rattle.host_names.specs.declared.cells.Cell.{Cell}
use Rattle.site_state.specs.declared.values.Value.{Value}
use Rattle.site_change.specs.Differences.{IsBelowPath}
use Rattle.site_change.proofs.FolderMoves.{all_paths_below}
use Rattle.site_change.proofs.folders.folder_refusal.Goals as goal

pub has_too_long-requires : goal.has_too_long-requires
has_too_long-requires c =
    let P : List (Cell × Value) → Type 0 = AllByRecursion (λ e. IsBelowPath c.args.source.now e.0) in
    subst P (sym c.below-2.ensures) (all_paths_below c.args.state.now c.args.site.now c.args.source.now)
