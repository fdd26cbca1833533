use Rattle.growing.proofs.Bases.{ends_no_earlier, entry_kept, same_base, same_log}
use Rattle.growing.proofs.laws.a_later_log_keeps_its_base_and_its_entries.Goals as goal

pub returns-clause-base : goal.returns-clause-base
returns-clause-base c = same_base

pub returns-clause-entry : goal.returns-clause-entry
returns-clause-entry c = entry_kept

pub returns-clause-last : goal.returns-clause-last
returns-clause-last c = ends_no_earlier

pub returns-clause-same : goal.returns-clause-same
returns-clause-same c = same_log
