-- Entries taken in turn.
use Rattle.std.specs.Prelude.{◌≡◌, ◌⊎◌, ℕ, ◌<◌, ◌≤◌, List, ◌∷◌, Some}
use Rattle.byte_view.specs.Contents.{Contents}
use Rattle.site_change.specs.declared.refusals.ChangeRefusal.{ChangeRefusal}
use Rattle.site_change.specs.declared.refusals.ChangeError.{ChangeError}
use Rattle.site_change.specs.declared.refusals.ChangeError.TheVariants as error
use Rattle.site_state.specs.States.{State}
use Rattle.site_change.specs.declared.entries.Entry.{Entry}
use Rattle.site_change.specs.declared.entries.Entry.TheVariants.{Change, Undo}
use Rattle.change_undo.specs.Histories.{IsLegal, Past, commit_refusal, run, undo_refusal}
use Rattle.change_log.specs.Bases.{IsBase}
use Rattle.change_log.specs.Logs.{Log, last_number, next_number, with_entries}
use Rattle.change_undo.specs.Plans.{IsHistoryOver}
use Rattle.host_opening.specs.declared.replays.ReplayFault.{ReplayFault}
use Rattle.host_opening.specs.declared.replays.ReplayFault.TheVariants as fault

-- a history of this log over these uploads, whose entries may have numbers up to the limit
pub record IsReplayed (uploads : Contents) (limit : ℕ) (log : Log) (past : Past) : Type 0 where
  pub entries_are : past.entries ≡ log
  pub limit_is : past.limit ≡ limit
  pub over : IsHistoryOver uploads past

-- why the entry isn't accepted as the one after these, in a history of this limit
abbrev pub IsRefusedAfter : Contents → ℕ → Log → Entry → ChangeRefusal → Type 0
IsRefusedAfter uploads limit before (Change command) reason =
    (state : State) × (run uploads before ≡ Some state) × (commit_refusal uploads limit before state command ≡ Some reason)
IsRefusedAfter uploads limit before (Undo site k) reason = undo_refusal uploads limit before site k ≡ Some reason

-- why the entry after these wasn't taken: there is a reason to refuse it, or there was no memory
abbrev pub IsStoppedBy : Contents → ℕ → Log → Entry → ReplayFault → Type 0
IsStoppedBy uploads limit before entry (fault.NotLegal n) =
    (n ≡ next_number before) × ((reason : ChangeRefusal) × IsRefusedAfter uploads limit before entry reason)
IsStoppedBy uploads limit before entry fault.OutOfMemory = Unit {0}

-- there is no history of the base, if the log has one: it may not be one, or its number is above the limit; or there was no memory
abbrev pub StopsAtBase : Contents → ℕ → Log → ReplayFault → Type 0
StopsAtBase uploads limit log (fault.NotLegal n) = (n ≡ log.base) × ((limit < log.base) ⊎ ¬ (IsBase uploads log.base log.names))
StopsAtBase uploads limit log fault.OutOfMemory = 0 < log.base

-- the first ones are accepted in turn, within the limit, and the next one wasn't taken
pub record StopsAtEntry (uploads : Contents) (limit : ℕ) (log : Log) (stop : ReplayFault) : Type 0 where
  pub before : Log
  pub entry : Entry
  pub after : List Entry
  pub parts : log ≡ with_entries before (entry ∷ after)
  pub legal : IsLegal uploads before
  pub within : last_number before ≤ limit
  pub stopped : IsStoppedBy uploads limit before entry stop

-- where the replay of a log stops, and why: at its base, or at an entry
abbrev pub StopsAt : Contents → ℕ → Log → ReplayFault → Type 0
StopsAt uploads limit log stop = StopsAtBase uploads limit log stop ⊎ StopsAtEntry uploads limit log stop

-- ---- what private functions say

-- why one entry was not appended to a history: it is refused after those of the history, or there was no memory
abbrev pub IsAppendFault : Contents → Past → Entry → ChangeError → Type 0
IsAppendFault uploads past entry (error.Refused reason) = IsRefusedAfter uploads past.limit past.entries entry reason
IsAppendFault uploads past entry error.OutOfMemory = Unit {0}

-- what is told of it, where the entry has this number
abbrev pub fault_at : ℕ → ChangeError → ReplayFault
fault_at n (error.Refused reason) = fault.NotLegal n
fault_at n error.OutOfMemory = fault.OutOfMemory
