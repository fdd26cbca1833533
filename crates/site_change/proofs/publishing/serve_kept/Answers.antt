use Rattle.std.proofs.Common.{ℕ, List, subst}
use Rattle.host_names.specs.declared.cells.Cell.{Cell}
use Rattle.site_state.specs.Files.{Paths}
use Rattle.site_state.specs.States.{live_entries}
use Rattle.site_state.specs.declared.values.Value.{Value}
use Rattle.site_change.specs.Differences.{AreLiveChanges}
use Rattle.site_change.proofs.Deciding.{sides_of, served_changes}
use Rattle.site_change.proofs.publishing.serve_kept.Goals as goal

pub live_changes-requires : goal.live_changes-requires
live_changes-requires c = rw (c.live.ensures, c.entries.ensures.pairs) (sides_of c.args.state.now c.args.site.now c.args.tree.now c.requires c.entries.ensures.sorted)

pub returns-clause-changes : goal.returns-clause-changes
returns-clause-changes c =
    let P : List (Cell × Value) → Type 0 = λ l. AreLiveChanges c.args.site.now l c.entries.result.now c.in_ok-changes.changes.items in
    let Q : Paths (List ℕ) → Type 0 = λ t. AreLiveChanges c.args.site.now (live_entries c.args.state.now c.args.site.now) t c.in_ok-changes.changes.items in
    rw c.new.ensures.changes (served_changes c.args.site.now c.args.tree.now c.args.state.now c.in_ok-changes.changes.items
    (subst Q c.entries.ensures.pairs (subst P c.live.ensures c.in_ok-changes.ensures)))
