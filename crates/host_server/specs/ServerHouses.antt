-- What the calls of a server do, as those of a house.
use Rattle.std.specs.Prelude.{◌≡◌, ◌⊎◌, ℕ, ◌≤◌, List, [], ◌∷◌, true, false, Option, Some, None, Result, Ok, Err, IsSome, IsTrue}
use Rattle.std.specs.declared.alloc.AllocError.{AllocError}
use Rattle.host_names.specs.declared.digests.Digest.{Digest}
use Rattle.host_names.specs.declared.names.SiteName.{SiteName}
use Rattle.byte_view.specs.Contents.{AreDigested}
use Rattle.blob_store.specs.Calls.{Call}
use Rattle.chunk_reads.specs.Reading.{IsNotHeld}
use Rattle.chunk_group.specs.Cached.{GaveOfNode, ReadsChunk}
use Rattle.site_state.specs.Files.{Paths}
use Rattle.site_state.specs.Missing.{AreMissing, least_missing_of}
use Rattle.site_change.specs.declared.commands.Command.{Command}
use Rattle.site_change.specs.declared.refusals.ChangeRefusal.{ChangeRefusal}
use Rattle.change_undo.specs.Histories.{may_take_memory}
use Rattle.site_change.specs.declared.entries.Entry.{Entry}
use Rattle.site_change.specs.declared.entries.Entry.TheVariants.{Change, Undo}
use Rattle.host_api.specs.declared.refusals.Refusal.{Refusal}
use Rattle.host_api.specs.declared.refusals.Refusal.TheVariants as reason
use Rattle.host_disk.specs.declared.disks.Disk.{Ghosts}
use Rattle.host_answers.specs.Houses.{Calls, Failed, Gave}
use Rattle.host_answers.specs.declared.stops.Stop.{Stop}
use Rattle.host_answers.specs.declared.stops.Stop.TheVariants as stop
use Rattle.host_answers.specs.declared.uploads.Uploaded.{Uploaded}
use Rattle.host_server.specs.Hosts.{IsLawful, next_number, state_of, with_entry}
use Rattle.host_server.specs.Journals.{Puts, PutsInPart, is_broken}
use Rattle.host_server.specs.Outcomes.{judge_in}
use Rattle.host_server.specs.Reasons.{commit_refusal, undo_refusal}
use Rattle.host_server.specs.Storing.{DoesUpload}
use Rattle.host_server.specs.declared.servers.Server.{Server}

-- ---- entries

-- host, journal and files stay
abbrev pub IsSame : {S D : Type 0} {disk : Ghosts D} → Server S D disk → Server S D disk → Type 0
IsSame server next = (next.house ≡ server.house) × (next.journal ≡ server.journal) × (next.files ≡ server.files)

-- What comes of an entry, where this is the first reason against it, and memory may run out under this premise: it is
-- put into the journal and is the next of the host; or nothing changes; or the device fails in the put, and the host
-- doesn't get it.
abbrev pub EntersAt : {S D : Type 0} {disk : Ghosts D} → Entry → Option ChangeRefusal → (may_lack : Type 0) → Server S D disk → Result ℕ Stop → Server S D disk → Type 0
EntersAt {disk = disk} entry refusal may_lack server (Ok number) next =
    (refusal ≡ None) × (number ≡ next_number server.house) × (next.house ≡ with_entry server.house entry)
    × Puts disk server.journal (entry ∷ []) next.journal × (next.files ≡ server.files)
EntersAt entry refusal may_lack server (Err stop.Broken) next = ⊥
EntersAt entry refusal may_lack server (Err (stop.Refused why)) next = (refusal ≡ Some why) × IsSame server next
EntersAt entry refusal may_lack server (Err stop.OutOfMemory) next = may_lack × IsSame server next
EntersAt {disk = disk} entry refusal may_lack server (Err stop.Device) next =
    (refusal ≡ None) × (next.house ≡ server.house) × PutsInPart disk server.journal [] entry next.journal
    × (next.files ≡ server.files)

-- ---- calls

module _ {S D : Type 0} {disk : Ghosts D} where
  -- a look changes nothing, and never fails; it says what holds of every host
  abbrev pub LooksAt : Server S D disk → Result (Unit {0}) AllocError → Server S D disk → Type 0
  LooksAt server (Ok done) next = (next ≡ server) × IsLawful server.house × AreDigested server.house.uploads
  LooksAt server (Err why) next = ⊥

  -- memory runs out only where a listed digest isn't uploaded
  abbrev pub MissesAt : Server S D disk → Paths (Option Digest) → Result (List Digest) AllocError → Type 0
  MissesAt server files (Ok required) = AreMissing server.house.uploads files required
  MissesAt server files (Err why) = IsSome (least_missing_of server.house.uploads files)

  -- that is done, unless the journal's device failed at an earlier call; then it is said, and nothing changes
  abbrev pub UnlessBroken : {A : Type 0} → (broken : A) → (Server S D disk → A → Server S D disk → Type 0) → Server S D disk → A → Server S D disk → Type 0
  UnlessBroken broken does server done next =
      ((is_broken server.journal ≡ true) × (done ≡ broken) × (next ≡ server))
      ⊎ ((is_broken server.journal ≡ false) × does server done next)

  abbrev pub CommitsAt : Server S D disk → Command → Result ℕ Stop → Server S D disk → Type 0
  CommitsAt server command done next =
      let refusal = commit_refusal server.house command in
      UnlessBroken (Err stop.Broken) (EntersAt (Change command) refusal (refusal ≡ None)) server done next

  -- an undo may be refused by a clash that memory is too short to name
  abbrev pub UndoesAt : Server S D disk → SiteName → ℕ → Result ℕ Stop → Server S D disk → Type 0
  UndoesAt server site k done next =
      let refusal = undo_refusal server.house site k in
      UnlessBroken (Err stop.Broken) (EntersAt (Undo site k) refusal (IsTrue (may_take_memory refusal))) server done next

  -- all but the files stays
  abbrev pub KeepsHost : Server S D disk → Server S D disk → Type 0
  KeepsHost server next = (next.house ≡ server.house) × (next.journal ≡ server.journal)

  module _ (did : S → Call → S → Type 0) (failures : S → ℕ) where
    -- the bytes are taken as the file at a path of a deploy of the site, or it is told why not
    abbrev pub DoesUploadTo : SiteName → ℕ → (path bytes : List ℕ) → Server S D disk → Result Uploaded Refusal → Server S D disk → Type 0
    DoesUploadTo site n path bytes server done next =
        DoesUpload did failures server (judge_in server.house site n path bytes) n bytes done next

    abbrev pub UploadsAt : Server S D disk → SiteName → ℕ → (path bytes : List ℕ) → Result Uploaded Refusal → Server S D disk → Type 0
    UploadsAt server site n path bytes done next =
        UnlessBroken (Err reason.Broken) (DoesUploadTo site n path bytes) server done next
        × (failures server.files.shelf ≤ failures next.files.shelf)

    abbrev pub gave_at : Gave (Server S D disk)
    gave_at server hold next = GaveOfNode did failures server.files hold next.files × KeepsHost server next

    abbrev pub failed_at : Failed (Server S D disk)
    failed_at server file first last why next =
        IsNotHeld (ReadsChunk did failures) server.files file first last why next.files × KeepsHost server next

    abbrev pub calls_of : Calls (Server S D disk)
    calls_of = record {
      seen = λ server. record { entries = server.house.entries; state = state_of server.house };
      looks = LooksAt;
      misses = MissesAt;
      commits = CommitsAt;
      undoes = UndoesAt;
      uploads = UploadsAt;
    }
