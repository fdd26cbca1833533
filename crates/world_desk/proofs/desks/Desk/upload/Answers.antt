use Rattle.std.proofs.Common.{subst, sym}
use Rattle.byte_view.specs.Contents.{Contents}
use Rattle.site_change.specs.Changes.{IsWithin}
use Rattle.world_desk.proofs.Changing.{uploads_stay}
use Rattle.world_desk.proofs.desks.Desk.upload.Goals as goal

pub invariant_of-self-2 : goal.invariant_of-self-2
invariant_of-self-2 c =
    let P : Contents → Type 0 = λ more. IsWithin c.self.inside.uploads more in
    let more = subst P (sym c.in_ok-keep.ensures.ok) (uploads_stay c.self.inside.uploads c.args.bytes.now) in
    let over = c.histories_outlast_uploads.ensures.over in (
      over c.self.inside.uploads c.keep.new.uploads c.self.inside.history more c.self.invariant.0,
      over c.self.inside.uploads c.keep.new.uploads c.self.inside.shown more c.self.invariant.1,
    )
