-- What becomes of a journal where an entry is put.
use Rattle.std.specs.Prelude.{◌≡◌, true, false, IsTrue}
use Rattle.change_journal.specs.Faults.{BreaksEither}
use Rattle.change_journal.specs.Held.{Keeps}
use Rattle.change_journal.specs.Texts.{AllStored, LeavesNext}
use Rattle.host_disk.specs.declared.disks.Disk.{Ghosts}
use Rattle.record_file.specs.Pairs.{Order}
use Rattle.record_file.specs.declared.records.PutFault.TheVariants.{Device}
use Rattle.change_log.specs.Logs as logs
use Rattle.site_change.specs.declared.entries.Entry.{Entry}

-- an entry was put after the others: of modelled disks, whatever a crash leaves holds them all then, and at any moment of the put those
-- before it, and perhaps this one too
pub record IsPut {D : Type 0} (disk : Ghosts D) (old : Keeps D) (entry : Entry) (new : Keeps D) : Type 0 where
  pub was_whole : old.broken ≡ false
  pub entries : new.entries ≡ logs.with_entry old.entries entry
  pub whole : new.broken ≡ false
  pub stored : IsTrue disk.is_modelled → AllStored (disk.may_leave new.first) (disk.may_leave new.second) new.entries.entries
  pub moments : IsTrue disk.is_modelled → (order : Order) × LeavesNext disk.moment disk.left_since order old.entries.entries entry old.first old.second new.first new.second
  pub cause : (disk.faults new.first ≡ disk.faults old.first) × (disk.faults new.second ≡ disk.faults old.second)

-- a device failed while an entry was put: it is none of the journal's, of which nothing more is put; the disks may hold it or not
pub record IsPutInVain {D : Type 0} (disk : Ghosts D) (old : Keeps D) (entry : Entry) (new : Keeps D) : Type 0 where
  pub was_whole : old.broken ≡ false
  pub entries : new.entries ≡ old.entries
  pub broken : new.broken ≡ true
  pub moments : IsTrue disk.is_modelled → (order : Order) × LeavesNext disk.moment disk.left_since order old.entries.entries entry old.first old.second new.first new.second
  pub cause : BreaksEither Device (disk.faults old.first) (disk.faults old.second) (disk.faults new.first) (disk.faults new.second)
