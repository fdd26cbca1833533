use Rattle.std.proofs.Common.{◌≤◌}
use Rattle.host_opening.specs.Needs.{HasNeeds, need_up_to}
use Rattle.host_opening.proofs.wanted_files.needs_of.Given as goal

abbrev pub invariant-loop-place : goal.invariant-loop-place
invariant-loop-place l = (l.log.base ≤ l.place) × HasNeeds (need_up_to l.log l.place) l.needs
