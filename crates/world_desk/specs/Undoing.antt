-- What the undo of a change does at a desk.
use Rattle.std.specs.Prelude.{◌≡◌, ℕ, ◌<◌, Option, Some, None, true}
use Rattle.std.specs.List.{Contains}
use Rattle.host_names.specs.declared.cells.Cell.{Cell}
use Rattle.host_names.specs.declared.names.SiteName.{SiteName}
use Rattle.site_state.specs.States.{State}
use Rattle.site_change.specs.Changes.{run_from, site_of_command}
use Rattle.site_change.specs.declared.commands.Command.{Command}
use Rattle.site_change.specs.declared.refusals.ChangeRefusal.{ChangeRefusal}
use Rattle.change_undo.specs.Clashes.{ChangesAt, TouchesAt}
use Rattle.site_change.specs.declared.entries.Entry.TheVariants as entry
use Rattle.change_undo.specs.Histories.{base_state, live_changes, run, undo_refusal}
use Rattle.change_undo.specs.Live.{without}
use Rattle.change_log.specs.Logs.{last_number, with_entry}
use Rattle.world_desk.specs.Desks.{Ask, DeskState, happens, is_published}

-- the desk after it was asked for the undo of this change of this site
abbrev pub after_undo : DeskState → SiteName → ℕ → DeskState
after_undo d site k = happens d (Ask (entry.Undo site k))

-- ---- which changes can be undone

-- The change of this number lives, and is one of this site. No later change that lives touches a cell which it changed. The log has room for an
-- entry more.
pub record IsFree (d : DeskState) (site : SiteName) (k : ℕ) : Type 0 where
  pub command : Command
  pub lives : Contains (live_changes d.log) (k, command)
  pub own : site_of_command command ≡ site
  pub untouched : (j : ℕ) (at : Cell) → k < j → ChangesAt d.uploads d.log k at → ¬ (TouchesAt d.uploads d.log j at)
  pub room : last_number d.log < d.limit

-- ---- what an undo does

-- the log has the undo more, and its state is that of the other changes that live, each in its place; what was uploaded, what is shown and what
-- visitors have seen is as before
pub record LeavesOut (site : SiteName) (k : ℕ) (old new : DeskState) : Type 0 where
  pub state : State
  pub now : run new.uploads new.log ≡ Some state
  pub without_it : run_from old.uploads (base_state old.uploads old.log) (without k (live_changes old.log)) ≡ Some state
  pub others : live_changes new.log ≡ without k (live_changes old.log)
  pub same : new ≡ record old { log = with_entry old.log (entry.Undo site k) }

-- there is a first reason to refuse the undo, and nothing changes
pub record IsUndoRefused (site : SiteName) (k : ℕ) (old new : DeskState) : Type 0 where
  pub reason : ChangeRefusal
  pub refused : undo_refusal old.uploads old.limit old.log site k ≡ Some reason
  pub same : new ≡ old

-- ---- the same, by the reason

-- where there is no reason to refuse the undo, its change is left out, and else nothing changes
abbrev pub IsUndone : Option ChangeRefusal → SiteName → ℕ → DeskState → DeskState → Type 0
IsUndone None site k old new = LeavesOut site k old new
IsUndone (Some reason) site k old new = new ≡ old

-- so it is where the desk is asked for the undo, and all that it has is shown
abbrev pub UndoesOrRefuses : DeskState → SiteName → ℕ → Type 0
UndoesOrRefuses d site k = is_published d ≡ true → IsUndone (undo_refusal d.uploads d.limit d.log site k) site k d (after_undo d site k)
