use Rattle.change_undo.proofs.Live.{live_changes-change, live_changes-undo}
use Rattle.change_undo.proofs.Runs.{next-not_undone}
use Rattle.change_undo.proofs.laws.an_entry_changes_what_lives.Goals as goal

pub returns-clause-undone : goal.returns-clause-undone
returns-clause-undone c = live_changes-undo

pub returns-clause-changed : goal.returns-clause-changed
returns-clause-changed c uploads log command legal = live_changes-change log command (next-not_undone uploads log legal)
