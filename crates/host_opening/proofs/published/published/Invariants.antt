use Rattle.std.proofs.Common.{◌≤◌}
use Rattle.host_opening.specs.Needs.{HasPublished}
use Rattle.host_opening.proofs.Taken.{up_to}
use Rattle.host_opening.proofs.published.published.Given as goal

abbrev pub invariant-loop-place : goal.invariant-loop-place
invariant-loop-place l = (l.log.base ≤ l.place) × HasPublished (up_to l.place l.log) l.published
