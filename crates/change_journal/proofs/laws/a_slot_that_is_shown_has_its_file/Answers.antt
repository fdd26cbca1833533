use Rattle.change_journal.proofs.HeldLists.{shown_first, shown_has_file}
use Rattle.change_journal.proofs.laws.a_slot_that_is_shown_has_its_file.Goals as goal

pub returns : goal.returns
returns c = record { whole = shown_has_file; unsynced = shown_first }
