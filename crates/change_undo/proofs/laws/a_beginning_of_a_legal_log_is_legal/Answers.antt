use Rattle.change_undo.proofs.LiveEntries.{beginning-legal}
use Rattle.change_undo.proofs.laws.a_beginning_of_a_legal_log_is_legal.Goals as goal

pub returns : goal.returns
returns c = beginning-legal
