use Rattle.std.proofs.Common.{ℕ, List, IfOk, sym, subst}
use Rattle.site_state.specs.Files.{Paths}
use Rattle.site_change.specs.Changes.{with_published}
use Rattle.site_change.specs.Plans.{IsDifference}
use Rattle.site_change.specs.Uploaded.{IsUploadedTree}
use Rattle.site_change.proofs.Uploading.{tree_uploaded}
use Rattle.site_change.proofs.publishing.full_changes.Goals as goal

pub tree_changes-requires : goal.tree_changes-requires
tree_changes-requires g c =
    let uploads = g.U.Uploads.contents c.args.uploads.now in record {
      uploads = uploads;
      served_or_kept = c.requires.known;
      listed = subst (IsUploadedTree uploads) (sym c.in_ok-tree.ensures) (tree_uploaded uploads c.requires.digested c.args.files.now.1 c.requires.complete);
    }

pub returns : goal.returns
returns g c =
    let P : Paths (List ℕ) → Type 0 = λ t. IfOk c.tree_changes.result (λ changes. IsDifference c.args.state.now (with_published c.args.site.now c.args.number t c.args.state.now) changes.items) in
    subst P c.in_ok-tree.ensures c.tree_changes.ensures
