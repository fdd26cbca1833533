-- What becomes of a journal where a host gets more entries.
use Rattle.std.specs.Prelude.{◌≡◌, ◌⊎◌, List, [], ◌∷◌, Bool, false, Option, Some, None, Result, Err}
use Rattle.change_journal.specs.Held.{Keeps}
use Rattle.host_disk.specs.declared.disks.Disk.{Ghosts}
use Rattle.change_log.specs.Logs as logs
use Rattle.site_change.specs.declared.entries.Entry.{Entry}
use Rattle.host_api.specs.declared.refusals.Refusal.{Refusal}
use Rattle.host_api.specs.declared.refusals.Refusal.TheVariants as reason
use Rattle.journaled_history.specs.Puts.{IsPut, IsPutInVain}
use Rattle.host_server.specs.Hosts.{Host}

-- ---- a journal and a host

-- the entries of the journal; where there is none, these
abbrev pub entries_in : {D : Type 0} → Option (Keeps D) → logs.Log → logs.Log
entries_in None log = log
entries_in (Some journal) log = journal.entries

-- the entries of the journal, if there is one, are these
abbrev pub Agrees : {D : Type 0} → Option (Keeps D) → logs.Log → Type 0
Agrees journal log = entries_in journal log ≡ log

-- whether the device failed while an entry was put
abbrev pub is_broken : {D : Type 0} → Option (Keeps D) → Bool
is_broken None = false
is_broken (Some journal) = journal.broken

-- ---- puts

-- these entries were put, one after another; where there is no journal, or no entry, nothing was
abbrev pub Puts : {D : Type 0} → (disk : Ghosts D) → Option (Keeps D) → List Entry → Option (Keeps D) → Type 0
Puts disk old [] new = new ≡ old
Puts disk None (entry ∷ more) new = new ≡ None
Puts {D = D} disk (Some old) (entry ∷ more) new = (mid : Keeps D) × IsPut disk old entry mid × Puts disk (Some mid) more new

-- these were, and then the device failed while this one was put
pub record PutsInPart {D : Type 0} (disk : Ghosts D) (old : Option (Keeps D)) (more : List Entry) (entry : Entry) (new : Option (Keeps D)) : Type 0 where
  pub mid : Keeps D
  pub put : Puts disk old more (Some mid)
  pub last : Keeps D
  pub in_vain : IsPutInVain disk mid entry last
  pub is : new ≡ Some last

-- ---- what a host's call does to its journal

-- the entries that the host got were put
pub record KeepsUp {D : Type 0} (disk : Ghosts D) (old : Host) (journal : Option (Keeps D)) (new : Host) (next : Option (Keeps D)) : Type 0 where
  pub more : List Entry
  pub longer : new.entries ≡ logs.with_entries old.entries more
  pub put : Puts disk journal more next

-- they were, and then the device failed while this one was put, which the host didn't get
pub record BreaksOff {D : Type 0} (disk : Ghosts D) (old : Host) (journal : Option (Keeps D)) (missed : Entry) (new : Host) (next : Option (Keeps D)) : Type 0 where
  pub more : List Entry
  pub longer : new.entries ≡ logs.with_entries old.entries more
  pub put : PutsInPart disk journal more missed next

-- where a call of the host that makes no other entry than this one answers so, a failure of the device is that of its journal in the put of it
abbrev pub IsJournaled : {A D : Type 0} → (disk : Ghosts D) → Entry → Result A Refusal → Host → Option (Keeps D) → Host → Option (Keeps D) → Type 0
IsJournaled disk entry (Err reason.Device) old journal new next = BreaksOff disk old journal entry new next
IsJournaled disk entry result old journal new next = KeepsUp disk old journal new next

-- there was no memory, or the device of the journal failed
abbrev pub IsStopped : {A : Type 0} → Result A Refusal → Type 0
IsStopped result = (result ≡ Err reason.OutOfMemory) ⊎ (result ≡ Err reason.Device)
