use Rattle.std.proofs.Common.{refl}
use Rattle.change_journal.proofs.Entrywise.{next_holds}
use Rattle.change_journal.proofs.HeldLists.{gate_open, gate_not_open, turned_entries}
use Rattle.change_journal.proofs.laws.slots_hold_an_entry_whose_gate_is_open.Goals as goal

pub returns : goal.returns
returns c = record {
  open_gate = gate_open;
  other_gate = gate_not_open;
  left = λ order log entry a b left. next_holds order log entry a b left.writable left.old (left.one a refl) (left.other b refl);
  turned = turned_entries;
}
