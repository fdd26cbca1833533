-- What an opening of a host gives, and why there is none.
use Rattle.std.specs.Prelude.{◌≡◌, ◌⊎◌, ℕ, List, Some, IsTrue, false}
use Rattle.byte_view.specs.Contents.{Contents}
use Rattle.blob_store.specs.Calls.{Call}
use Rattle.blob_store.specs.Openings as blobs
use Rattle.blob_store.specs.declared.openings.OpenFault as of_files
use Rattle.blob_store.specs.declared.openings.OpenFault.TheVariants as blobs_fault
use Rattle.blob_store.specs.declared.openings.Wanted.{Wanted}
use Rattle.change_log.specs.Logs.{IsWhole, Log}
use Rattle.change_journal.specs.Held.{Keeps}
use Rattle.change_journal.specs.Faults.{StopsEither}
use Rattle.change_journal.specs.Texts.{AllStored, IsText, texts}
use Rattle.record_file.specs.Pairs.{AreForeign, AreRefused, BothOnlyRead, FoundBoth, ReadsBad}
use Rattle.record_file.specs.declared.faults.OpenFault as of_disk
use Rattle.record_file.specs.declared.faults.OpenFault.TheVariants as journal_fault
use Rattle.host_disk.specs.declared.disks.Disk.{Ghosts}
use Rattle.host_opening.specs.Replays.{StopsAt}
use Rattle.host_opening.specs.WantedFiles.{AreWanted}
use Rattle.host_opening.specs.declared.replays.ReplayFault.{ReplayFault}
use Rattle.host_opening.specs.declared.replays.ReplayFault.TheVariants as replay_fault
use Rattle.found_host.specs.declared.faults.OpenFault.{OpenFault}
use Rattle.found_host.specs.declared.faults.OpenFault.TheVariants as fault
use Rattle.found_host.specs.Remains.{Remains}

-- ---- what is opened

-- two slots have an open journal, whose log has no base: of modelled disks, its entries are those that they held, and whatever a crash leaves holds them
pub record HasJournal {D : Type 0} (disk : Ghosts D) (first second : D) (journal : Keeps D) : Type 0 where
  pub whole : journal.broken ≡ false
  pub all : IsWhole journal.entries
  pub found : IsTrue disk.is_modelled → FoundBoth (texts journal.entries.entries) (disk.seen first) (disk.seen second)
  pub stored : IsTrue disk.is_modelled → AllStored (disk.may_leave journal.first) (disk.may_leave journal.second) journal.entries.entries
  pub no_fault : (disk.faults journal.first ≡ disk.faults first) × (disk.faults journal.second ≡ disk.faults second)

-- the journal of two slots was opened, and their disks are handed back
pub record HadJournal {D : Type 0} (disk : Ghosts D) (first second new_first new_second : D) : Type 0 where
  pub journal : Keeps D
  pub has_journal : HasJournal disk first second journal
  pub first_is : new_first ≡ journal.first
  pub second_is : new_second ≡ journal.second

-- of the files that these entries want, those that the shelf gave whole are known
pub record HasFiles {S : Type 0} (did : S → Call → S → Type 0) (old : S) (entries : Log) (known : Contents) (new : S) : Type 0 where
  pub wanted : List Wanted
  pub are_wanted : AreWanted entries wanted
  pub opened : blobs.IsOpened did old wanted known new

-- A host is found: the journal of two slots is open, and its entries are accepted in turn over the files that they want, of as many as the limit says.
pub record IsOpened {S D : Type 0} (disk : Ghosts D) (did : S → Call → S → Type 0) (first second : D) (shelf : S) (limit : ℕ) (found : Remains D S) : Type 0 where
  pub has_journal : HasJournal disk first second found.journal
  pub limit_is : found.limit ≡ limit
  pub has_files : HasFiles did shelf found.journal.entries found.store.known found.store.shelf

-- ---- why there is none, in the order in which it is told

-- of modelled disks: nothing was written
abbrev pub IsUnwritten : {D : Type 0} → Ghosts D → (first second new_first new_second : D) → Type 0
IsUnwritten disk first second new_first new_second =
    IsTrue disk.is_modelled → BothOnlyRead disk.seen disk.may_leave disk.moment disk.left_since first second new_first new_second

-- of modelled disks: nothing was written to slots that are refused
abbrev pub IsSpared : {D : Type 0} → Ghosts D → (first second new_first new_second : D) → Type 0
IsSpared disk first second new_first new_second =
    IsTrue disk.is_modelled → AreRefused (λ header before. IsText header) (disk.seen first) (disk.seen second)
    → BothOnlyRead disk.seen disk.may_leave disk.moment disk.left_since first second new_first new_second

-- the journal can't be opened: the slots have none, or a bad record, or there was no memory, and nothing was written; or a device failed, which
-- is counted, and nothing was written to slots that are refused
abbrev pub IsJournalFault : {D : Type 0} → Ghosts D → (first second : D) → OpenFault → (new_first new_second : D) → Type 0
IsJournalFault disk first second fault.BadHeader new_first new_second =
    (IsTrue disk.is_modelled → AreForeign (disk.seen first) (disk.seen second)) × IsUnwritten disk first second new_first new_second
IsJournalFault disk first second (fault.BadRecord n) new_first new_second =
    (IsTrue disk.is_modelled → ReadsBad (λ header before. IsText header) n (disk.seen first) (disk.seen second)) × IsUnwritten disk first second new_first new_second
IsJournalFault disk first second fault.JournalDevice new_first new_second =
    StopsEither journal_fault.Device (disk.faults first) (disk.faults second) (disk.faults new_first) (disk.faults new_second)
    × IsSpared disk first second new_first new_second
IsJournalFault disk first second fault.OutOfMemory new_first new_second = IsUnwritten disk first second new_first new_second
IsJournalFault disk first second why new_first new_second = ⊥

-- the files that these entries want can't be opened, for that reason
abbrev pub AreNotOpened : {S : Type 0} → (did : S → Call → S → Type 0) → S → Log → of_files.OpenFault → S → Type 0
AreNotOpened did old entries why new = (wanted : List Wanted) × AreWanted entries wanted × blobs.IsOpenFault did old wanted why new

-- a file that must be there is missing or damaged, or the device of the shelf failed; or there was no memory: the shelf wasn't asked, or some files
-- were taken and the next one lacked it, on the shelf or here
abbrev pub IsFilesFault : {S : Type 0} → (did : S → Call → S → Type 0) → S → Log → OpenFault → S → Type 0
IsFilesFault did old entries (fault.MissingBlob digest) new = AreNotOpened did old entries (blobs_fault.MissingBlob digest) new
IsFilesFault did old entries (fault.DamagedBlob digest) new = AreNotOpened did old entries (blobs_fault.DamagedBlob digest) new
IsFilesFault did old entries fault.BlobsDevice new = AreNotOpened did old entries blobs_fault.Device new
IsFilesFault did old entries fault.OutOfMemory new = (new ≡ old) ⊎ AreNotOpened did old entries blobs_fault.OutOfMemory new
IsFilesFault did old entries why new = ⊥

-- that; or the files were opened, and the entry of a number isn't accepted after those before it; or they were, and there was no memory, whether or
-- not each entry would be
abbrev pub IsHostFault : {S : Type 0} → (did : S → Call → S → Type 0) → S → ℕ → Log → OpenFault → S → Type 0
IsHostFault did old limit entries (fault.NotLegal n) new =
    (known : Contents) × HasFiles did old entries known new × StopsAt known limit entries (replay_fault.NotLegal n)
IsHostFault did old limit entries fault.OutOfMemory new = IsFilesFault did old entries fault.OutOfMemory new ⊎ ((known : Contents) × HasFiles did old entries known new)
IsHostFault did old limit entries why new = IsFilesFault did old entries why new

-- Why a host can't be opened: the journal can't be, and the shelf isn't asked; or its entries have no host.
abbrev pub IsOpenFault : {S D : Type 0} → Ghosts D → (did : S → Call → S → Type 0) → (first second : D) → (shelf : S) → ℕ → OpenFault → (new_first new_second : D) → (new_shelf : S) → Type 0
IsOpenFault {D = D} disk did first second shelf limit why new_first new_second new_shelf =
    (IsJournalFault disk first second why new_first new_second × (new_shelf ≡ shelf))
    ⊎ ((journal : Keeps D) × HasJournal disk first second journal × (new_first ≡ journal.first) × (new_second ≡ journal.second)
    × IsHostFault did shelf limit journal.entries why new_shelf)

-- a reason other than that the slots have no journal, or one of its records is none
abbrev pub IsNoRecordFault : OpenFault → Type 0
IsNoRecordFault fault.BadHeader = ⊥
IsNoRecordFault (fault.BadRecord n) = ⊥
IsNoRecordFault why = Unit {0}

-- ---- how the faults of its parts are told

abbrev pub of_journal : of_disk.OpenFault → OpenFault
of_journal journal_fault.BadHeader = fault.BadHeader
of_journal (journal_fault.BadRecord n) = fault.BadRecord n
of_journal journal_fault.Device = fault.JournalDevice
of_journal journal_fault.OutOfMemory = fault.OutOfMemory

abbrev pub of_blobs : of_files.OpenFault → OpenFault
of_blobs (blobs_fault.MissingBlob digest) = fault.MissingBlob digest
of_blobs (blobs_fault.DamagedBlob digest) = fault.DamagedBlob digest
of_blobs blobs_fault.Device = fault.BlobsDevice
of_blobs blobs_fault.OutOfMemory = fault.OutOfMemory

abbrev pub of_replay : ReplayFault → OpenFault
of_replay (replay_fault.NotLegal n) = fault.NotLegal n
of_replay replay_fault.OutOfMemory = fault.OutOfMemory
