-- What a desk answers, in terms of its logs.
use Rattle.std.specs.Prelude.{◌≡◌, ◌≢◌, ◌↔◌, ◌<◌, ℕ, Bool, true, false, List, length, Option, Some, None, IsSome, Result, Ok, Err, option_map}
use Rattle.std.specs.FinMap as map
use Rattle.std.specs.declared.alloc.AllocError.{AllocError}
use Rattle.blob_store.specs.declared.blobs.UploadFault.{UploadFault}
use Rattle.blob_store.specs.declared.blobs.UploadFault.TheVariants as fault
use Rattle.byte_view.specs.Contents.{AreDigested, Contents}
use Rattle.host_names.specs.Digests.{digest_of}
use Rattle.host_names.specs.declared.digests.Digest.{Digest}
use Rattle.host_names.specs.declared.names.SiteName.{SiteName}
use Rattle.site_state.specs.Deploys.{is_ready_draft, listed_at}
use Rattle.site_state.specs.Files.{Paths}
use Rattle.site_state.specs.Missing.{AreMissing, least_missing_of}
use Rattle.site_state.specs.States.{State, draft_at, kept_at}
use Rattle.site_change.specs.declared.commands.Command.{Command}
use Rattle.site_change.specs.declared.commands.Command.TheVariants.{Publish}
use Rattle.site_change.specs.declared.refusals.ChangeRefusal.{ChangeRefusal}
use Rattle.site_change.specs.declared.refusals.ChangeRefusal.TheVariants.{NoSuchDeploy}
use Rattle.change_undo.specs.Histories.{IsLegal, commit_refusal, run, undo_refusal}
use Rattle.change_log.specs.Logs.{Log, last_number, with_entry}
use Rattle.site_change.specs.declared.entries.Entry.{Entry}
use Rattle.site_change.specs.declared.entries.Entry.TheVariants.{Change}
use Rattle.host_api.specs.declared.refusals.Refusal.{Refusal}
use Rattle.host_api.specs.declared.refusals.Refusal.TheVariants as reason
use Rattle.host_answers.specs.Answers.{told_stop}
use Rattle.host_answers.specs.declared.stops.Stop.{Stop}
use Rattle.host_answers.specs.declared.stops.Stop.TheVariants as stop
use Rattle.host_answers.specs.declared.uploads.Uploaded.{Uploaded}
use Rattle.site_desk.specs.declared.errors.DeskError.{DeskError}
use Rattle.site_desk.specs.declared.errors.DeskError.TheVariants as desk
use Rattle.site_desk.specs.declared.upload_errors.UploadError.{UploadError}
use Rattle.site_desk.specs.declared.upload_errors.UploadError.TheVariants as upload
use Rattle.shared_house.specs.declared.desk_access.Taken.{Taken}

-- ---- a log

-- over these uploads, each of which is under its own digest, a log is legal, and gives this state
pub record IsRunOver (uploads : Contents) (log : Log) (state : State) : Type 0 where
  pub digested : AreDigested uploads
  pub legal : IsLegal uploads log
  pub ran : run uploads log ≡ Some state

-- over some uploads a log is legal, and this is so of them and of the state that it gives
abbrev pub IsSoAt : Log → (Contents → State → Type 0) → Type 0
IsSoAt log is_so = (uploads : Contents) × (state : State) × IsRunOver uploads log state × is_so uploads state

-- ---- an entry

-- the first reason against an entry after a log, by the uploads and the state that the log gives over them
abbrev pub Reason : Type 0
Reason = Contents → Log → State → Option ChangeRefusal

abbrev pub reason_of_command : Command → Reason
reason_of_command command uploads log state = commit_refusal uploads 1000000 log state command

abbrev pub reason_of_undo : SiteName → ℕ → Reason
reason_of_undo site change uploads log state = undo_refusal uploads 1000000 log site change

-- this is the first reason against an entry after a log, or there is none
abbrev pub IsJudged : Reason → Log → Option ChangeRefusal → Type 0
IsJudged reason log why = IsSoAt log (λ uploads state. reason uploads log state ≡ why)

-- What a desk of this log answers where an entry is to be made: the receipt of the log with the entry, against which nothing is; or a refusal for the
-- first reason, with the receipt of the log or without; or that the journal failed, though nothing is against the entry; or that it failed before, or that
-- there is no memory.
abbrev pub IsEntryAnswer : Entry → Reason → Log → Result Log (DeskError Log) → Type 0
IsEntryAnswer entry reason log (Ok receipt) = IsJudged reason log None × (receipt ≡ with_entry log entry)
IsEntryAnswer entry reason log (Err (desk.Refused why seen)) = IsJudged reason log (Some why) × (seen ≡ log)
IsEntryAnswer entry reason log (Err (desk.NoReceipt why)) = IsJudged reason log (Some why)
IsEntryAnswer entry reason log (Err desk.Device) = IsJudged reason log None
IsEntryAnswer entry reason log (Err other) = Unit {0}

-- what is told of that: the number of the entry, or why there is none
abbrev pub stop_of : DeskError Log → Stop
stop_of desk.Broken = stop.Broken
stop_of (desk.Refused why seen) = stop.Refused why
stop_of (desk.NoReceipt why) = stop.OutOfMemory
stop_of desk.OutOfMemory = stop.OutOfMemory
stop_of desk.Device = stop.Device

abbrev pub told_of : Result Log (DeskError Log) → Result ℕ Stop
told_of (Ok receipt) = Ok (last_number receipt)
told_of (Err error) = Err (stop_of error)

-- the log that is learnt of it
abbrev pub learnt_of : Log → Result Log (DeskError Log) → Log
learnt_of log (Ok receipt) = receipt
learnt_of log (Err error) = log

-- ---- an upload

-- at a log a site's deploy lists this at a path: no such deploy, no file there, or its digest
abbrev pub Lists : Log → SiteName → ℕ → (path : List ℕ) → Option (Option Digest) → Type 0
Lists log site n path listed = IsSoAt log (λ uploads state. listed_at (draft_at state site n) (kept_at state site n) path ≡ listed)

-- the digest of these bytes
abbrev pub ListsThem : Log → SiteName → ℕ → (path bytes : List ℕ) → Type 0
ListsThem log site n path bytes = Lists log site n path (Some (Some (digest_of bytes)))

-- another digest than that
abbrev pub ListsOthers : Log → SiteName → ℕ → (path bytes : List ℕ) → Type 0
ListsOthers log site n path bytes = (listed : Digest) × (listed ≢ digest_of bytes) × Lists log site n path (Some (Some listed))

-- the digest of these bytes, and they fit into a file
abbrev pub MayStore : Log → SiteName → ℕ → (path bytes : List ℕ) → Type 0
MayStore log site n path bytes = ListsThem log site n path bytes × ¬ (16777216 < length bytes)

-- over these uploads a log is legal, and this says whether a site's deploy is ready
abbrev pub IsReady : Log → (files : Contents) → SiteName → ℕ → Bool → Type 0
IsReady log files site n ready = (state : State) × IsRunOver files log state × (is_ready_draft files (draft_at state site n) ≡ ready)

-- What comes of the publishing once these files are known: the deploy isn't ready; or it is, and is published or not, as any entry is made or not.
abbrev pub IsPublishing : Log → (files : Contents) → SiteName → ℕ → Result (Option Log) (DeskError Log) → Type 0
IsPublishing log files site n (Ok None) = IsReady log files site n false
IsPublishing log files site n (Ok (Some receipt)) =
    IsReady log files site n true × IsEntryAnswer (Change (Publish site n)) (reason_of_command (Publish site n)) log (Ok receipt)
IsPublishing log files site n (Err why) =
    IsReady log files site n true × IsEntryAnswer (Change (Publish site n)) (reason_of_command (Publish site n)) log (Err why)

-- the deploy lists the digest of these bytes, and their file is one of those that are known at last
abbrev pub IsStored : (first : Log) → (files : Contents) → SiteName → ℕ → (path bytes : List ℕ) → Type 0
IsStored first files site n path bytes = MayStore first site n path bytes × IsSome (map.get files (digest_of bytes))

-- What it answers to an upload of these bytes to a path of a deploy, first at a log, and at last at one that begins with that and over these files: that the
-- bytes are taken, with their digest, and what comes of the publishing; or the first reason against that.
abbrev pub IsUploadAnswer : SiteName → ℕ → (path bytes : List ℕ) → (first last : Log) → (files : Contents) → Result (Taken Log) (UploadError Log) → Type 0
IsUploadAnswer site n path bytes first last files (Ok taken) =
    IsStored first files site n path bytes × (taken.digest ≡ digest_of bytes) × IsPublishing last files site n (Ok taken.published)
IsUploadAnswer site n path bytes first last files (Err upload.Broken) = Unit {0}
IsUploadAnswer site n path bytes first last files (Err upload.NoSuchDeploy) = Lists first site n path None
IsUploadAnswer site n path bytes first last files (Err upload.NotListed) = Lists first site n path (Some None)
IsUploadAnswer site n path bytes first last files (Err upload.WrongDigest) = ListsOthers first site n path bytes
IsUploadAnswer site n path bytes first last files (Err (upload.NotStored why)) =
    ListsThem first site n path bytes × ((why ≡ fault.TooLarge) ↔ (16777216 < length bytes))
IsUploadAnswer site n path bytes first last files (Err (upload.NotPublished why)) =
    IsStored first files site n path bytes × IsPublishing last files site n (Err why)

-- what is told of that
abbrev pub refusal_of_fault : UploadFault → Refusal
refusal_of_fault fault.TooLarge = reason.TooLarge
refusal_of_fault fault.Device = reason.Device
refusal_of_fault fault.OutOfMemory = reason.OutOfMemory

abbrev pub refusal_of : UploadError Log → Refusal
refusal_of upload.Broken = reason.Broken
refusal_of upload.NoSuchDeploy = reason.Change NoSuchDeploy
refusal_of upload.NotListed = reason.NotListed
refusal_of upload.WrongDigest = reason.WrongDigest
refusal_of (upload.NotStored why) = refusal_of_fault why
refusal_of (upload.NotPublished why) = told_stop (stop_of why)

abbrev pub uploaded_of : Result (Taken Log) (UploadError Log) → Result Uploaded Refusal
uploaded_of (Ok taken) = Ok (record { published = option_map last_number taken.published; digest = taken.digest })
uploaded_of (Err error) = Err (refusal_of error)

-- the log that is learnt of it
abbrev pub published_log : Log → Option Log → Log
published_log log None = log
published_log log (Some receipt) = receipt

abbrev pub learnt_of_upload : Log → Result (Taken Log) (UploadError Log) → Log
learnt_of_upload log (Ok taken) = published_log log taken.published
learnt_of_upload log (Err error) = log

-- ---- what a deploy lacks

-- which of the listed digests these files lack; or there is no memory for that, though there is one
abbrev pub IsLackAnswer : (files : Contents) → (listed : Paths (Option Digest)) → Result (List Digest) AllocError → Type 0
IsLackAnswer files listed (Ok required) = AreMissing files listed required
IsLackAnswer files listed (Err why) = IsSome (least_missing_of files listed)
