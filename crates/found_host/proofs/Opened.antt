-- What the parts of an opening say of it.
use Rattle.std.proofs.Common.{◌≡◌, ◌⊎◌, inl, inr, IsTrue, ℕ, false, refl, subst, sym}
use Rattle.byte_view.specs.Contents.{Contents}
use Rattle.blob_store.specs.Calls.{Call}
use Rattle.change_log.specs.Logs.{IsWhole, Log}
use Rattle.change_journal.specs.Held.{Keeps}
use Rattle.change_journal.specs.Faults.{StopsEither}
use Rattle.change_journal.specs.Texts.{AllStored, IsText, texts}
use Rattle.record_file.specs.Pairs.{AreForeign, BothOnlyRead, FoundBoth, ReadsBad}
use Rattle.record_file.specs.declared.faults.OpenFault as of_disk
use Rattle.record_file.specs.declared.faults.OpenFault.TheVariants as journal_fault
use Rattle.host_disk.specs.declared.disks.Disk.{Ghosts}
use Rattle.host_opening.specs.Replays.{StopsAt}
use Rattle.host_opening.specs.declared.replays.ReplayFault.{ReplayFault}
use Rattle.host_opening.specs.declared.replays.ReplayFault.TheVariants as replay_fault
use Rattle.found_host.specs.Openings.{HasFiles, HasJournal, IsFilesFault, IsHostFault, IsJournalFault, IsSpared, of_journal, of_replay}
use Rattle.found_host.specs.declared.faults.OpenFault.{OpenFault}
use Rattle.found_host.specs.declared.faults.OpenFault.TheVariants as fault

-- the entries that were found are the journal's
pub has_journal : {D : Type 0} (disk : Ghosts D) (first second : D) (journal : Keeps D) (log : Log) → (journal.entries ≡ log) × (journal.broken ≡ false) → IsWhole log
    → (IsTrue disk.is_modelled → FoundBoth (texts log.entries) (disk.seen first) (disk.seen second)) → (IsTrue disk.is_modelled → AllStored (disk.may_leave journal.first) (disk.may_leave journal.second) log.entries)
    → (disk.faults journal.first ≡ disk.faults first) × (disk.faults journal.second ≡ disk.faults second) → HasJournal disk first second journal
has_journal disk first second journal log are all found stored no_fault = record {
  whole = are.1;
  all = subst IsWhole (sym are.0) all;
  found = subst (λ (l : Log). IsTrue disk.is_modelled → FoundBoth (texts l.entries) (disk.seen first) (disk.seen second)) (sym are.0) found;
  stored = subst (λ (l : Log). IsTrue disk.is_modelled → AllStored (disk.may_leave journal.first) (disk.may_leave journal.second) l.entries) (sym are.0) stored;
  no_fault = no_fault;
}

-- the files are there, and the entries aren't accepted in turn
pub not_replayed : {S : Type 0} (did : S → Call → S → Type 0) (old : S) (limit : ℕ) (entries : Log) (known : Contents) (why : ReplayFault) (new : S)
    → HasFiles did old entries known new → StopsAt known limit entries why → IsHostFault did old limit entries (of_replay why) new
not_replayed did old limit entries known (replay_fault.NotLegal n) new files stops = (known, files, stops)
not_replayed did old limit entries known replay_fault.OutOfMemory new files stops = inr (known, files)

-- the files aren't there
pub not_there : {S : Type 0} (did : S → Call → S → Type 0) (old : S) (limit : ℕ) (entries : Log) (why : OpenFault) (new : S)
    → IsFilesFault did old entries why new → IsHostFault did old limit entries why new
not_there did old limit entries fault.BadHeader new why = why
not_there did old limit entries (fault.BadRecord n) new why = why
not_there did old limit entries (fault.NotLegal n) new why = absurd why
not_there did old limit entries fault.JournalDevice new why = why
not_there did old limit entries (fault.MissingBlob digest) new why = why
not_there did old limit entries (fault.DamagedBlob digest) new why = why
not_there did old limit entries fault.BlobsDevice new why = why
not_there did old limit entries fault.OutOfMemory new why = inl why

-- why the journal can't be opened
pub journal_stops : {D : Type 0} (disk : Ghosts D) (first second : D) (why : of_disk.OpenFault) (new_first new_second : D)
    → (IsTrue disk.is_modelled → why ≡ journal_fault.BadHeader → AreForeign (disk.seen first) (disk.seen second))
    → (IsTrue disk.is_modelled → (number : ℕ) → why ≡ journal_fault.BadRecord number → ReadsBad (λ header before. IsText header) number (disk.seen first) (disk.seen second))
    → (IsTrue disk.is_modelled → (why ≡ journal_fault.Device → ⊥) → BothOnlyRead disk.seen disk.may_leave disk.moment disk.left_since first second new_first new_second)
    → IsSpared disk first second new_first new_second → StopsEither why (disk.faults first) (disk.faults second) (disk.faults new_first) (disk.faults new_second) → IsJournalFault disk first second (of_journal why) new_first new_second
journal_stops disk first second journal_fault.BadHeader new_first new_second foreign bad unwritten spared told = (λ modelled. foreign modelled refl, λ modelled. unwritten modelled (λ e. absurd (cc e)))
journal_stops disk first second (journal_fault.BadRecord number) new_first new_second foreign bad unwritten spared told = (λ modelled. bad modelled number refl, λ modelled. unwritten modelled (λ e. absurd (cc e)))
journal_stops disk first second journal_fault.Device new_first new_second foreign bad unwritten spared told = (told, spared)
journal_stops disk first second journal_fault.OutOfMemory new_first new_second foreign bad unwritten spared told = λ modelled. unwritten modelled (λ e. absurd (cc e))

-- ---- which fault of the journal is told as which

pub was_memory : (why : of_disk.OpenFault) → of_journal why ≡ fault.OutOfMemory → why ≡ journal_fault.OutOfMemory
was_memory journal_fault.BadHeader told = absurd (cc told)
was_memory (journal_fault.BadRecord number) told = absurd (cc told)
was_memory journal_fault.Device told = absurd (cc told)
was_memory journal_fault.OutOfMemory told = refl

pub was_device : (why : of_disk.OpenFault) → of_journal why ≡ fault.JournalDevice → why ≡ journal_fault.Device
was_device journal_fault.BadHeader told = absurd (cc told)
was_device (journal_fault.BadRecord number) told = absurd (cc told)
was_device journal_fault.Device told = refl
was_device journal_fault.OutOfMemory told = absurd (cc told)

pub told_as_none : (why : of_disk.OpenFault) → (why ≡ journal_fault.BadHeader) ⊎ (why ≡ journal_fault.Device)
    → (of_journal why ≡ fault.BadHeader) ⊎ (of_journal why ≡ fault.JournalDevice)
told_as_none journal_fault.BadHeader is = inl refl
told_as_none (journal_fault.BadRecord number) (inl is) = absurd (cc is)
told_as_none (journal_fault.BadRecord number) (inr is) = absurd (cc is)
told_as_none journal_fault.Device is = inr refl
told_as_none journal_fault.OutOfMemory (inl is) = absurd (cc is)
told_as_none journal_fault.OutOfMemory (inr is) = absurd (cc is)
