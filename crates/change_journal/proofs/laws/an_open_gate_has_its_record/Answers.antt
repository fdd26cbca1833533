use Rattle.change_journal.proofs.HeldLists.{gate_first, open_has_record}
use Rattle.change_journal.proofs.laws.an_open_gate_has_its_record.Goals as goal

pub returns : goal.returns
returns c = record { whole = open_has_record; unsynced = gate_first }
