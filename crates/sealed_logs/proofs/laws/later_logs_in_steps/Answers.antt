use Rattle.change_log.specs.Logs.{with_entry}
use Rattle.sealed_logs.specs.Sealing.{sealed}
use Rattle.sealed_logs.proofs.Laters.{later-entry, later-seal, log-itself, log-step, log-trans}
use Rattle.sealed_logs.proofs.laws.later_logs_in_steps.Goals as goal

pub returns-clause-itself : goal.returns-clause-itself
returns-clause-itself c = log-itself

pub returns-clause-goes_on : goal.returns-clause-goes_on
returns-clause-goes_on c = log-trans

pub returns-clause-entry : goal.returns-clause-entry
returns-clause-entry c = λ uploads log entry digested legal. log-step uploads log (with_entry log entry) digested (later-entry uploads log entry legal)

pub returns-clause-seal : goal.returns-clause-seal
returns-clause-seal c = λ uploads log n digested legal ok. log-step uploads log (sealed uploads n log) digested (later-seal uploads log n legal ok)
