-- What a house answers whose history others change: what its last look shows, and what its desk answers.
use Rattle.std.specs.Prelude.{◌≡◌, ◌⊎◌, ℕ, List, Option, Result, Ok, Err, IsTrue}
use Rattle.std.specs.declared.alloc.AllocError.{AllocError}
use Rattle.host_names.specs.declared.digests.Digest.{Digest}
use Rattle.host_names.specs.declared.names.SiteName.{SiteName}
use Rattle.byte_view.specs.Contents.{AreDigested, Contents}
use Rattle.site_state.specs.Files.{Paths}
use Rattle.site_change.specs.declared.commands.Command.{Command}
use Rattle.change_log.specs.Logs.{BeginsWith, Log}
use Rattle.site_change.specs.declared.entries.Entry.{Entry}
use Rattle.site_change.specs.declared.entries.Entry.TheVariants.{Change, Undo}
use Rattle.http_wire.specs.Requests.{RequestParts}
use Rattle.host_api.specs.declared.bodies.Ask.{Ask}
use Rattle.host_api.specs.declared.refusals.Refusal.{Refusal}
use Rattle.host_api.specs.declared.refusals.Refusal.TheVariants as reason
use Rattle.host_api.specs.declared.texts.Told.TheVariants.{Refused}
use Rattle.host_replies.specs.Replies.{Answer, refused_answer}
use Rattle.host_answers.specs.Answers.{DoesBy, OnlyTells}
use Rattle.host_answers.specs.Asking.{asked_for, asking_takes}
use Rattle.host_answers.specs.Houses.{Calls, Failed, Gave, Seen}
use Rattle.host_answers.specs.declared.stops.Stop.{Stop}
use Rattle.host_answers.specs.declared.stops.Stop.TheVariants as stop
use Rattle.host_answers.specs.declared.uploads.Uploaded.{Uploaded}
use Rattle.site_desk.specs.declared.errors.DeskError.{DeskError}
use Rattle.site_desk.specs.declared.upload_errors.UploadError.{UploadError}
use Rattle.shared_house.specs.declared.desk_access.Taken.{Taken}
use Rattle.shared_house.specs.Desks.{Asks, Enters, HouseCall, Lacks, LacksHold, Takes}
use Rattle.shared_house.specs.Entering.{IsEntryAnswer, IsLackAnswer, IsRunOver, IsUploadAnswer, Reason, learnt_of, learnt_of_upload, reason_of_command, reason_of_undo, told_of, uploaded_of}
use Rattle.shared_house.specs.Seeing.{Seeing}

-- what is shown is a legal log and the state that it gives, over some uploads
abbrev pub IsLegalRun : Seen → Type 0
IsLegalRun seen = (uploads : Contents) × IsRunOver uploads seen.entries seen.state

-- What a house answers that shows what it sees (`sees`) and asks a desk, where `did` says which calls of the desk were made, and which files weren't held.
module _ {K : Type 0} (did : HouseCall → Type 0) (sees : Seeing K) where
  -- ---- changes

  -- What comes of an entry: the desk is asked to make it, and answers at a log that begins with all that was seen. That is told, and learnt.
  abbrev pub EntersAs : Entry → Reason → (old : K) → Result ℕ Stop → (new : K) → Type 0
  EntersAs entry reason old done new =
      (log : Log) × (answer : Result Log (DeskError Log)) × sees.is_later old log × did (Asks (Enters entry log answer))
      × IsEntryAnswer entry reason log answer × (done ≡ told_of answer) × sees.learns old (learnt_of log answer) new

  -- Once a change is an entry, there may be no memory to show it.
  abbrev pub CommitsAs : (old : K) → Command → Result ℕ Stop → (new : K) → Type 0
  CommitsAs old command done new =
      EntersAs (Change command) (reason_of_command command) old done new
      ⊎ ((done ≡ Err stop.OutOfMemory) × ((number : ℕ) × EntersAs (Change command) (reason_of_command command) old (Ok number) new))

  abbrev pub UndoesAs : (old : K) → SiteName → ℕ → Result ℕ Stop → (new : K) → Type 0
  UndoesAs old site change done new = EntersAs (Undo site change) (reason_of_undo site change) old done new

  -- ---- uploads

  -- What comes of an upload to a path of a deploy: the desk is asked to take it, and answers at two logs, each of which begins with all that was seen, and over
  -- files that have all that were seen. That is told, and learnt.
  abbrev pub TakesAs : (old : K) → SiteName → ℕ → (path bytes : List ℕ) → Result Uploaded Refusal → (new : K) → Type 0
  TakesAs old site n path bytes done new =
      (first : Log) × (last : Log) × (files : Contents) × (answer : Result (Taken Log) (UploadError Log)) × (mid : K)
      × sees.is_later old first × BeginsWith last first × sees.are_all old files
      × did (Asks (Takes site n path bytes last files answer)) × IsUploadAnswer site n path bytes first last files answer
      × (done ≡ uploaded_of answer) × sees.finds old files mid × sees.learns mid (learnt_of_upload last answer) new

  -- what a deploy lacks that lists these: the desk is asked, and answers over files that have all that were seen, each under its own digest; and that is told
  abbrev pub LacksAs : (old : K) → Paths (Option Digest) → Result (List Digest) AllocError → Type 0
  LacksAs old listed required =
      (files : Contents) × AreDigested files × sees.are_all old files × did (Asks (Lacks listed files required)) × IsLackAnswer files listed required

  -- ---- answers

  -- the calls after the look that shows this, none of which is a look
  abbrev pub calls_over : Seen → Calls K
  calls_over seen = record {
    seen = λ k. seen;
    looks = λ old done new. ⊥;
    misses = λ k listed required. LacksAs k listed required;
    commits = CommitsAs;
    undoes = UndoesAs;
    uploads = λ old site n path bytes done new. TakesAs old site n path bytes done new;
  }

  -- nothing is learnt where files are held, or aren't; why not is shown
  abbrev pub gives : Gave K
  gives old hold new = new ≡ old

  abbrev pub fails : Failed K
  fails old file first last why new = did (LacksHold file first last why) × (new ≡ old)

  -- after a look the answer is over what that shows; there may be no memory for the look
  abbrev pub RespondsAs : (old : K) → RequestParts → (body : List ℕ) → Result Ask Refusal → Answer → (new : K) → Type 0
  RespondsAs old parts body (Err why) answer new = OnlyTells old (Refused why) answer new
  RespondsAs old parts body (Ok asked) answer new =
      ((seen : Seen) × (mid : K) × sees.looks old seen.entries mid × IsLegalRun seen
      × DoesBy (calls_over seen) gives fails mid parts body asked answer new)
      ⊎ ((answer ≡ refused_answer reason.OutOfMemory) × (new ≡ old))

  -- The answer to a request. It comes after a look, whose log begins with those of all earlier looks, receipts and refusals, and whose state is what that
  -- log gives.
  abbrev pub IsSharedAnswer : (old : K) → RequestParts → (body : List ℕ) → Answer → (new : K) → Type 0
  IsSharedAnswer old parts body answer new =
      RespondsAs old parts body (asked_for parts body) answer new
      ⊎ (IsTrue (asking_takes parts body) × OnlyTells old (Refused reason.OutOfMemory) answer new)
