use Rattle.std.proofs.Common.{sym, ap, subst, ◌∙◌}
use Rattle.std.specs.Option.{option_copied}
use Rattle.std.specs.FinMap as finmap
use Rattle.host_names.specs.declared.cells.Cell.TheVariants as cell
use Rattle.site_change.proofs.Uploading.{HoldsTree, kept_uploaded}
use Rattle.site_change.proofs.publishing.restore.Goals as goal

pub serve_kept-requires : goal.serve_kept-requires
serve_kept-requires g c =
    let uploads = g.U.Uploads.contents c.args.uploads.now in
    let at = cell.Kept c.args.site.now c.args.number in record {
      uploads = uploads;
      served_or_kept = c.requires;
      listed = subst (HoldsTree uploads) (sym c.kept.ensures ∙ ap option_copied c.in-Some.is) (kept_uploaded uploads (finmap.get c.args.state.now at) (c.requires at));
    }
