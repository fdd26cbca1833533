use Rattle.host_opening.proofs.Replayed.{same_again}
use Rattle.host_opening.proofs.laws.a_replayed_history_is_the_same.Goals as goal

pub returns : goal.returns
returns c = λ uploads past opened over replayed. (replayed.entries_are, replayed.limit_is, same_again uploads past opened over replayed)
