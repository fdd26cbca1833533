use Rattle.std.proofs.Common.{Some, ap}
use Rattle.std.specs.FinMap as finmap
use Rattle.host_names.specs.declared.names.SiteName.{SiteName}
use Rattle.host_names.specs.declared.cells.Cell.TheVariants as cell
use Rattle.site_state.specs.declared.values.Value.TheVariants as value
use Rattle.site_change.proofs.Comparing.{comparable}
use Rattle.site_change.proofs.Deciding.{sides_of, publish_plan}
use Rattle.site_change.proofs.publishing.tree_changes.Goals as goal

pub live_changes-requires : goal.live_changes-requires
live_changes-requires c = rw (c.live.ensures, c.entries.ensures.pairs) (sides_of c.args.state.now c.args.site.now c.args.tree c.requires c.entries.ensures.sorted)

pub push_change-requires : goal.push_change-requires
push_change-requires c =
    let at = cell.Kept c.copied.result c.args.number in
    comparable c.requires.uploads (finmap.get c.args.state.now at) (Some (value.Kept c.args.tree)) (c.requires.served_or_kept at) c.requires.listed

pub returns : goal.returns
returns c =
    publish_plan c.args.site.now c.args.number c.args.tree c.args.state.now c.live.result c.entries.result.now (cell.Kept c.copied.result c.args.number) (cell.Draft c.copied-2.result c.args.number)
    c.in_ok-changes.changes.items c.push_change.new.changes.items c.push_change-2.new.changes.items c.live.ensures c.entries.ensures.pairs c.in_ok-changes.ensures
    (ap (λ (s : SiteName). cell.Kept s c.args.number) c.copied.ensures) c.in_ok-push_change.ensures (ap (λ (s : SiteName). cell.Draft s c.args.number) c.copied-2.ensures) c.in_ok-push_change-2.ensures
