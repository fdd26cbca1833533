use Rattle.std.proofs.Common.{◌≡◌, drop}
use Rattle.site_state.specs.Missing.{lesser, least_missing_of}
use Rattle.site_state.proofs.drafts.least_missing.Given as goal

abbrev pub invariant-loop-listed : goal.invariant-loop-listed
invariant-loop-listed g l = lesser l.least (least_missing_of (g.U.Uploads.contents l.uploads) (drop l.listed-index l.draft.files.1)) ≡ least_missing_of (g.U.Uploads.contents l.uploads) l.draft.files.1
