use Rattle.std.proofs.Common.{ap, subst}
use Rattle.host_names.specs.declared.names.SiteName.{SiteName}
use Rattle.host_names.specs.declared.cells.Cell.TheVariants as cell
use Rattle.site_change.specs.Differences.{AreListedChanges}
use Rattle.site_change.proofs.Patches.{Listings, patch_plan}
use Rattle.site_change.proofs.publishing.patch_changes.Goals as goal

pub listed_changes-requires : goal.listed_changes-requires
listed_changes-requires g c = record {
  known = c.requires.known;
  digested = c.requires.digested;
  sorted = rw c.entries.ensures.pairs c.entries.ensures.sorted;
  complete = rw c.entries.ensures.pairs c.requires.complete;
}

pub returns : goal.returns
returns g c =
    let contents = g.U.Uploads.contents c.args.uploads.now in
    let P : Listings → Type 0 = λ l. AreListedChanges c.args.site.now contents l c.args.state.now c.in_ok-changes.changes.items in
    patch_plan c.args.site.now contents c.args.files.now.1 c.args.state.now c.args.number (cell.Draft c.copied.result c.args.number) c.in_ok-changes.changes.items _
    (subst P c.entries.ensures.pairs c.in_ok-changes.ensures) (ap (λ (s : SiteName). cell.Draft s c.args.number) c.copied.ensures) c.in_ok-push_change.ensures
