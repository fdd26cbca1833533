use Rattle.change_undo.proofs.LiveEntries.{no_clash-none, not_refused}
use Rattle.change_undo.proofs.laws.an_undo_without_a_clash_is_not_refused.Goals as goal

pub returns-clause-found : goal.returns-clause-found
returns-clause-found c = not_refused

pub returns-clause-named : goal.returns-clause-named
returns-clause-named c uploads limit log k command at room legal none = not_refused uploads limit log k command at room (no_clash-none uploads log k legal none)
