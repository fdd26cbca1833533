use Rattle.sealed_logs.proofs.Laters.{later-run}
use Rattle.sealed_logs.proofs.laws.a_later_log_has_the_state_of_a_longer_one.Goals as goal

pub returns : goal.returns
returns c = λ uploads old new digested later. (later.history, later.begins, later.legal, later-run uploads old new digested later)
