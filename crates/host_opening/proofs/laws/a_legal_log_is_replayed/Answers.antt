use Rattle.host_opening.proofs.InTurn.{never_stops}
use Rattle.host_opening.proofs.laws.a_legal_log_is_replayed.Goals as goal

pub returns : goal.returns
returns c = λ uploads limit entries n legal within. never_stops uploads limit entries n legal within
