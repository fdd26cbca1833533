use Rattle.std.proofs.Common.{◌≤◌, ◌-◌, length}
use Rattle.site_state.specs.Missing.{first_lacking_of}
use Rattle.site_state.proofs.drafts.first_lacking.Given as goal

abbrev pub invariant-loop-place : goal.invariant-loop-place
invariant-loop-place g l = l.place ≤ first_lacking_of (g.U.Uploads.contents l.uploads) l.draft.files.1

abbrev pub decreases-loop-place : goal.decreases-loop-place
decreases-loop-place g l = length l.draft.files.1 - l.place
