-- What a house asks of its desk, and for files.
use Rattle.std.specs.Prelude.{ℕ, List, Option, Result}
use Rattle.std.specs.declared.alloc.AllocError.{AllocError}
use Rattle.byte_view.specs.Contents.{Contents}
use Rattle.chunk_reads.specs.declared.faults.ReadFault.{ReadFault}
use Rattle.host_names.specs.declared.digests.Digest.{Digest}
use Rattle.host_names.specs.declared.names.SiteName.{SiteName}
use Rattle.site_state.specs.Files.{Paths}
use Rattle.change_log.specs.Logs.{Log}
use Rattle.site_change.specs.declared.entries.Entry.{Entry}
use Rattle.site_desk.specs.declared.errors.DeskError.{DeskError}
use Rattle.site_desk.specs.declared.upload_errors.UploadError.{UploadError}
use Rattle.shared_house.specs.declared.desk_access.Taken.{Taken}

-- to make an entry, to take an upload, or what a deploy lacks that lists these; with the log at which it answered, the files by which it did, and its answer
pub data DeskCall : Type 0 where
  Enters : (entry : Entry) (log : Log) (answer : Result Log (DeskError Log)) → DeskCall
  Takes : (site : SiteName) (n : ℕ) (path bytes : List ℕ) (log : Log) (files : Contents) (answer : Result (Taken Log) (UploadError Log)) → DeskCall
  Lacks : (listed : Paths (Option Digest)) (files : Contents) (answer : Result (List Digest) AllocError) → DeskCall

-- what a stretch of a file, from its first to its last byte, isn't held for
abbrev pub HoldFault : Type 1
HoldFault = (file : List ℕ) → (first last : ℕ) → ReadFault → Type 0

-- a call of the desk; or a stretch of a file was asked for, and not held for this reason
pub data HouseCall : Type 0 where
  Asks : (call : DeskCall) → HouseCall
  LacksHold : (file : List ℕ) (first last : ℕ) (why : ReadFault) → HouseCall

-- what these show: what the desk says of the one, and what the files say of the other
abbrev pub shows : (did : DeskCall → Type 0) → (fails : HoldFault) → HouseCall → Type 0
shows did fails (Asks call) = did call
shows did fails (LacksHold file first last why) = fails file first last why
