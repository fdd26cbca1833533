use Rattle.std.proofs.Common.{◌≡◌, ℕ, List, subst, ap, sym, ◌∙◌}
use Rattle.host_names.specs.declared.cells.Cell.{Cell}
use Rattle.site_state.specs.Files.{Paths}
use Rattle.site_state.specs.States.{entries_below}
use Rattle.site_state.specs.declared.values.Value.{Value}
use Rattle.site_change.specs.Changes.{moved_files}
use Rattle.site_change.specs.Differences.{AreLiveChanges, AreMovable, AreSides}
use Rattle.site_change.proofs.FolderMoves.{accepted_free, folder_difference, movable, sides_of_move}
use Rattle.site_change.proofs.folders.folder_changes.Goals as goal

pub moved_files-requires : goal.moved_files-requires
moved_files-requires c =
    let site = c.args.site.now in
    let source = c.args.source.now in
    let target = c.args.target.now in
    let P : List (Cell × Value) → Type 0 = AreMovable source target in
    subst P (sym c.below.ensures) (movable site source target c.args.state.now (accepted_free site source target c.args.state.now c.requires.accepted))

pub live_changes-requires : goal.live_changes-requires
live_changes-requires c =
    let site = c.args.site.now in
    let source = c.args.source.now in
    let target = c.args.target.now in
    let state = c.args.state.now in
    let listed = c.as_slice.ensures.value ∙ c.in_ok-files.ensures ∙ ap (moved_files source target) c.below.ensures in
    let P : Paths (List ℕ) → Type 0 = AreSides site c.below-2.result in
    let Q : List (Cell × Value) → Type 0 = λ l. AreSides site l (moved_files source target (entries_below state site source)) in
    subst P (sym listed) (subst Q (sym c.below-2.ensures) (sides_of_move site source target state c.requires.uploaded))

pub returns : goal.returns
returns c =
    let site = c.args.site.now in
    let source = c.args.source.now in
    let target = c.args.target.now in
    let state = c.args.state.now in
    let changes = c.in_ok-changes.changes.items in
    let listed = c.as_slice.ensures.value ∙ c.in_ok-files.ensures ∙ ap (moved_files source target) c.below.ensures in
    let P : Paths (List ℕ) → Type 0 = λ t. AreLiveChanges site c.below-2.result t changes in
    let Q : List (Cell × Value) → Type 0 = λ l. AreLiveChanges site l (moved_files source target (entries_below state site source)) changes in
    folder_difference site source target state (accepted_free site source target state c.requires.accepted) changes
    (subst Q c.below-2.ensures (subst P listed c.in_ok-changes.ensures))
