-- What a call at a desk finds, answers and does.
use Rattle.std.specs.Prelude.{◌≡◌, ℕ, ◌≤◌, true, Option, Some, None, Result, IfOk}
use Rattle.byte_view.specs.Contents.{AreDigested}
use Rattle.host_names.specs.declared.names.SiteName.{SiteName}
use Rattle.host_disk.specs.declared.disks.Disk.{Ghosts}
use Rattle.site_change.specs.declared.commands.Command.{Command}
use Rattle.site_change.specs.declared.refusals.ChangeRefusal.{ChangeRefusal}
use Rattle.site_change.specs.declared.entries.Entry.{Entry}
use Rattle.site_change.specs.declared.entries.Entry.TheVariants.{Change, Undo}
use Rattle.change_undo.specs.Histories.{IsLegal, may_take_memory, run}
use Rattle.change_log.specs.Logs.{Log, last_number, with_entry}
use Rattle.site_desk.specs.Answers.{IsAnswer}
use Rattle.site_desk.specs.Books.{IsEntered, Kept, commit_refusal, state_of, undo_refusal}
use Rattle.site_desk.specs.declared.errors.DeskError.{DeskError}

-- a book of so many entries at least, each of which was accepted in its place over files that are each under its own digest, and its state is what
-- they give
pub record IsMet {D : Type 0} (floor : ℕ) (kept : Kept D) : Type 0 where
  pub digested : AreDigested kept.known
  pub legal : IsLegal kept.known kept.journal.entries
  pub ran : run kept.known kept.journal.entries ≡ Some (state_of kept)
  pub floor_is : floor ≤ last_number kept.journal.entries

-- In its turn a call met a book. It answers as that book does, whose first reason against the entry is given; the book that it left has the entry as its
-- next one if the answer is Ok, whose receipt is of all entries then.
pub record IsTurn {D : Type 0} (disk : Ghosts D) (floor : ℕ) (entry : Entry) (why : Option ChangeRefusal) (MayRunOut : Type 0) (old : Kept D) (result : Result Log (DeskError Log)) (new : Kept D) : Type 0 where
  pub met : IsMet floor old
  pub answer : IsAnswer old.journal.broken old.journal.entries why MayRunOut result
  pub entered : IsEntered disk result entry old new
  pub receipt : IfOk result (λ receipt. receipt ≡ with_entry old.journal.entries entry)

-- the turn of a commit
abbrev pub IsCommit : {D : Type 0} → Ghosts D → ℕ → Command → Kept D → Result Log (DeskError Log) → Kept D → Type 0
IsCommit disk floor command old result new =
    IsTurn disk floor (Change command) (commit_refusal old command) (commit_refusal old command ≡ None) old result new

-- the turn of an undo
abbrev pub IsUndo : {D : Type 0} → Ghosts D → ℕ → SiteName → ℕ → Kept D → Result Log (DeskError Log) → Kept D → Type 0
IsUndo disk floor site change old result new =
    IsTurn disk floor (Undo site change) (undo_refusal old site change) (may_take_memory (undo_refusal old site change) ≡ true) old result new

-- a commit had its turn, at a book of these entries
abbrev pub Commits : {D : Type 0} → Ghosts D → ℕ → Log → Command → Result Log (DeskError Log) → Type 0
Commits {D} disk floor log command result =
    (old : Kept D) × (new : Kept D) × IsCommit disk floor command old result new × (old.journal.entries ≡ log)

-- an undo had its turn, at a book of these entries
abbrev pub Undoes : {D : Type 0} → Ghosts D → ℕ → Log → SiteName → ℕ → Result Log (DeskError Log) → Type 0
Undoes {D} disk floor log site change result =
    (old : Kept D) × (new : Kept D) × IsUndo disk floor site change old result new × (old.journal.entries ≡ log)
