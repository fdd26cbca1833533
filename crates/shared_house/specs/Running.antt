-- What a connection to running nodes is told, in terms of what it saw and of what it sees then.
use Rattle.std.specs.Prelude.{◌≡◌, ◌⊎◌, ℕ, List, Some, Err}
use Rattle.byte_view.specs.Contents.{Contents}
use Rattle.host_names.specs.declared.names.SiteName.{SiteName}
use Rattle.site_state.specs.States.{State}
use Rattle.site_change.specs.Changes.{run_from}
use Rattle.site_change.specs.declared.refusals.ChangeRefusal.{ChangeRefusal}
use Rattle.change_undo.specs.Histories.{base_state, live_changes}
use Rattle.change_undo.specs.Live.{without}
use Rattle.change_log.specs.Logs.{BeginsWith, Log, next_number, with_entry}
use Rattle.site_change.specs.declared.entries.Entry.TheVariants.{Undo}
use Rattle.http_wire.specs.Requests.{RequestParts}
use Rattle.host_api.specs.declared.refusals.Refusal.TheVariants.{Broken, Change, Device, OutOfMemory}
use Rattle.host_api.specs.declared.texts.Told.TheVariants.{Entered, Refused}
use Rattle.host_api.specs.declared.versions.Version.{Version}
use Rattle.host_replies.specs.Replies.{Answer, Tells}
use Rattle.host_replies.specs.Versions.{file_of}
use Rattle.host_answers.specs.FileReplies.{IsFileReply}
use Rattle.host_answers.specs.Houses.{Seen}
use Rattle.site_desk.specs.declared.errors.DeskError.TheVariants as desk
use Rattle.shared_house.specs.Desks.{Asks, Enters, HouseCall}
use Rattle.shared_house.specs.Entering.{IsJudged, IsRunOver, reason_of_undo}
use Rattle.shared_house.specs.Shared.{IsLegalRun}

-- ---- an undo

-- The undo of a change follows a log, which is legal with it. Its state then is that of the other changes that live, each in its place.
pub record LeavesOut (site : SiteName) (k : ℕ) (before : Log) : Type 0 where
  pub uploads : Contents
  pub state : State
  pub runs : IsRunOver uploads (with_entry before (Undo site k)) state
  pub without_it : run_from uploads (base_state uploads before) (without k (live_changes before)) ≡ Some state

-- it comes after all that the connection saw; it is told so, with its number, and the connection has seen the log with it then
abbrev pub IsUndone : SiteName → ℕ → (old : Log) → Answer → (new : Log) → Type 0
IsUndone site k old answer new =
    (before : Log) × BeginsWith before old × LeavesOut site k before × Tells (Entered (next_number before)) answer
    × BeginsWith new (with_entry before (Undo site k))

-- the first reason against it is told, over a log that begins with all that the connection saw, and it has seen that log then
abbrev pub IsUndoRefused : SiteName → ℕ → (old : Log) → Answer → (new : Log) → Type 0
IsUndoRefused site k old answer new =
    (log : Log) × (why : ChangeRefusal) × BeginsWith log old × IsJudged (reason_of_undo site k) log (Some why)
    × Tells (Refused (Change why)) answer × BeginsWith new log

-- it is told that there is no memory; or that the journal's device failed, as the desk answered: though nothing is against the undo, or before
abbrev pub IsUnable : (did : HouseCall → Type 0) → SiteName → ℕ → (old : Log) → Answer → Type 0
IsUnable did site k old answer =
    Tells (Refused OutOfMemory) answer
    ⊎ ((log : Log) × BeginsWith log old × did (Asks (Enters (Undo site k) log (Err desk.Device))) × Tells (Refused Device) answer)
    ⊎ ((log : Log) × BeginsWith log old × did (Asks (Enters (Undo site k) log (Err desk.Broken))) × Tells (Refused Broken) answer)

abbrev pub IsUndoReply : (did : HouseCall → Type 0) → SiteName → ℕ → (old : Log) → Answer → (new : Log) → Type 0
IsUndoReply did site k old answer new = IsUndone site k old answer new ⊎ IsUndoRefused site k old answer new ⊎ IsUnable did site k old answer

-- ---- a read

-- The reply is over the state that a legal log gives. The log begins with what the connection saw, and is what it has seen then.
abbrev pub IsReadOver : (old : Log) → RequestParts → SiteName → Version → (path : List ℕ) → Answer → (new : Log) → Type 0
IsReadOver old parts site version path answer new =
    (seen : Seen) × BeginsWith seen.entries old × (new ≡ seen.entries) × IsLegalRun seen
    × IsFileReply parts path (file_of seen.state site version path) answer

-- or it is told that there is no memory
abbrev pub IsReadReply : (old : Log) → RequestParts → SiteName → Version → (path : List ℕ) → Answer → (new : Log) → Type 0
IsReadReply old parts site version path answer new = IsReadOver old parts site version path answer new ⊎ Tells (Refused OutOfMemory) answer
