-- What a desk is asked from a seat.
use Rattle.std.specs.Prelude.{◌≡◌, ◌≢◌, ℕ, ◌+◌, List, Option, Result, Ok, Err}
use Rattle.byte_view.specs.Contents.{Contents}
use Rattle.blob_store.specs.Calls.{Call}
use Rattle.blob_store.specs.Receipts.{HasFailedPut}
use Rattle.blob_store.specs.declared.blobs.UploadFault.TheVariants.{Device}
use Rattle.host_disk.specs.declared.disks.Disk.{Ghosts}
use Rattle.host_names.specs.Digests.{digest_of}
use Rattle.host_names.specs.declared.digests.Digest.{Digest}
use Rattle.host_names.specs.declared.names.SiteName.{SiteName}
use Rattle.change_log.specs.Logs.{BeginsWith, Log}
use Rattle.site_change.specs.declared.entries.Entry.TheVariants.{Change, Undo}
use Rattle.site_desk.specs.declared.upload_errors.UploadError.{UploadError}
use Rattle.site_desk.specs.declared.upload_errors.UploadError.TheVariants.{NotPublished, NotStored, WrongDigest}
use Rattle.shared_desk.specs.Turns.{Commits, Undoes}
use Rattle.shared_desk.specs.Uploads.{Judges, Publishes}
use Rattle.shared_house.specs.Desks.{DeskCall, Enters, Lacks, Takes}

-- an upload had its first turn, at a book that has as many entries at least as were found at the opening, and some number more
abbrev pub IsJudgedAt : {D : Type 0} → Ghosts D → (found : ℕ) → Log → SiteName → ℕ → List ℕ → Result Digest (UploadError Log) → Type 0
IsJudgedAt disk found log site n path result = (made : ℕ) × Judges disk (found + made) log site n path result

-- it had its last turn too, over these files, after one that found the digest of these bytes
abbrev pub HadBothTurns : {D : Type 0} → Ghosts D → (found : ℕ) → Log → Contents → SiteName → ℕ → (path bytes : List ℕ) → Result (Option Log) (UploadError Log) → Type 0
HadBothTurns disk found log files site n path bytes result =
    (first : Log) × BeginsWith log first × IsJudgedAt disk found first site n path (Ok (digest_of bytes))
    × (made : ℕ) × Publishes disk (found + made) log files site n result

-- An entry that is asked for has its turn at such a book, which tells what becomes of the journal. An upload has its first turn, and stops there; or at its
-- bytes, where the device is blamed only if it failed at a put of them, as `failed` says of that; or has its last turn, too. Of what a deploy lacks this says nothing.
abbrev pub IsAsked : {D : Type 0} → Ghosts D → (failed : Call → Type 0) → (found : ℕ) → DeskCall → Type 0
IsAsked disk failed found (Enters (Change command) log answer) = (made : ℕ) × Commits disk (found + made) log command answer
IsAsked disk failed found (Enters (Undo site k) log answer) = (made : ℕ) × Undoes disk (found + made) log site k answer
IsAsked disk failed found (Takes site n path bytes log files (Ok taken)) = HadBothTurns disk found log files site n path bytes (Ok taken.published)
IsAsked disk failed found (Takes site n path bytes log files (Err (NotPublished why))) =
    HadBothTurns disk found log files site n path bytes (Err (NotPublished why))
IsAsked disk failed found (Takes site n path bytes log files (Err WrongDigest)) =
    (listed : Digest) × (listed ≢ digest_of bytes) × IsJudgedAt disk found log site n path (Ok listed)
IsAsked disk failed found (Takes site n path bytes log files (Err (NotStored why))) =
    IsJudgedAt disk found log site n path (Ok (digest_of bytes)) × (why ≡ Device → HasFailedPut failed bytes)
IsAsked disk failed found (Takes site n path bytes log files (Err other)) = IsJudgedAt disk found log site n path (Err other)
IsAsked disk failed found (Lacks listed files answer) = Unit {0}
