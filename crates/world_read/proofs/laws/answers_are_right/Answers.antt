use Rattle.world_read.proofs.Failing.{fails_impure}
use Rattle.world_read.proofs.Taken.{begins_right, next_right}
use Rattle.world_read.proofs.laws.answers_are_right.Goals as goal

pub returns : goal.returns
returns c = record { begun = begins_right; next = next_right; fails = fails_impure }
