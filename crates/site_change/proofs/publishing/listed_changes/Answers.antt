use Rattle.std.proofs.Common.{sym, subst}
use Rattle.site_change.specs.Uploaded.{HoldsUploaded}
use Rattle.site_change.proofs.Comparing.{comparable}
use Rattle.site_change.proofs.Listings.{uploaded_at}
use Rattle.site_change.proofs.Patches.{none_changed, one_changed, all_changed}
use Rattle.site_change.proofs.Uploading.{file_uploaded}
use Rattle.site_change.proofs.publishing.listed_changes.Goals as goal

pub loop-path-init : goal.loop-path-init
loop-path-init g c = none_changed c.args.site.now (g.U.Uploads.contents c.args.uploads.now) c.args.entries.now c.args.state.now _ c.new-changes.ensures.items

pub served-requires : goal.served-requires
served-requires g c =
    uploaded_at (g.U.Uploads.contents c.args.uploads.now) c.args.entries.now c.loop-path.path-index c.loop-path-item.result c.requires.complete c.loop-path-test.true c.loop-path-item.is

pub push_change-requires : goal.push_change-requires
push_change-requires g c =
    let uploads = g.U.Uploads.contents c.args.uploads.now in
    let there = uploaded_at uploads c.args.entries.now c.loop-path.path-index c.loop-path-item.result c.requires.complete c.loop-path-test.true c.loop-path-item.is in
    comparable uploads _ _ (c.requires.known _) (subst (HoldsUploaded uploads) (sym c.in_ok-served.ensures) (file_uploaded uploads c.requires.digested _ there))

pub loop-path-preserved : goal.loop-path-preserved
loop-path-preserved g c =
    one_changed c.args.site.now (g.U.Uploads.contents c.args.uploads.now) c.args.entries.now c.args.state.now c.loop-path.path-index c.loop-path-item.result c.loop-path.changes.items _
    c.in_ok-live.live c.in_ok-served.field-0 c.requires.sorted c.loop-path-test.true c.loop-path-item.is c.loop-path.invariant c.in_ok-live.ensures.copy
    c.in_ok-served.ensures c.in_ok-push_change.ensures

pub returns : goal.returns
returns g c =
    all_changed c.args.site.now (g.U.Uploads.contents c.args.uploads.now) c.args.entries.now c.args.state.now c.loop-path.path-index c.loop-path.changes.items c.loop-path-test.false
    c.loop-path.invariant
