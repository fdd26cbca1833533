use Rattle.std.proofs.Common.{◌≤◌}
use Rattle.host_opening.specs.Replays.{IsReplayed}
use Rattle.host_opening.proofs.Taken.{up_to}
use Rattle.host_opening.proofs.replays.replay.Given as goal

abbrev pub invariant-loop-place : goal.invariant-loop-place
invariant-loop-place g l = (l.log.base ≤ l.place) × IsReplayed (g.U.Uploads.contents l.uploads) l.limit (up_to l.place l.log) l.history
