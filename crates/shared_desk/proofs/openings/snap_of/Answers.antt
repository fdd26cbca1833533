use Rattle.std.proofs.Common.{subst, sym}
use Rattle.change_undo.specs.Histories.{Past}
use Rattle.site_desk.specs.Snaps.{IsFromUploads}
use Rattle.shared_desk.proofs.openings.snap_of.Goals as goal

pub shared-requires : goal.shared-requires
shared-requires c = subst (λ (past : Past). IsFromUploads past) (sym c.in_ok-copy.ensures) c.requires
