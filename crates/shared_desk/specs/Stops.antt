-- What turns at a book leave, one after another, however its disks stop or fail, and what a crash leaves then.
use Rattle.std.specs.Prelude.{◌≡◌, ◌⊎◌, ℕ, true, false, IsTrue, List, [], ◌∷◌, ◌++◌, Result, Ok, Err}
use Rattle.byte_view.specs.Contents.{Contents}
use Rattle.host_disk.specs.declared.disks.Disk.{Ghosts}
use Rattle.site_change.specs.Changes.{IsWithin}
use Rattle.site_change.specs.declared.entries.Entry.{Entry}
use Rattle.site_change.specs.declared.entries.Entry.TheVariants.{Change, Undo}
use Rattle.change_undo.specs.Histories.{IsLegal}
use Rattle.change_log.specs.Logs.{Log, with_entry}
use Rattle.record_file.specs.Pairs.{Order}
use Rattle.change_journal.specs.Texts.{AllStored, MayHoldNext}
use Rattle.site_desk.specs.Books.{Kept, with_known}
use Rattle.site_desk.specs.declared.errors.DeskError.{DeskError}
use Rattle.shared_desk.specs.Turns.{IsCommit, IsUndo}

-- a turn: the entry that was to be made, and what was answered
pub record Turn : Type 0 where
  pub entry : Entry
  pub answer : Result Log (DeskError Log)

-- it was the turn of a commit or of an undo
abbrev pub IsTurnOf : {D : Type 0} → Ghosts D → Entry → Kept D → Result Log (DeskError Log) → Kept D → Type 0
IsTurnOf disk (Change command) old answer new = (floor : ℕ) × IsCommit disk floor command old answer new
IsTurnOf disk (Undo site change) old answer new = (floor : ℕ) × IsUndo disk floor site change old answer new

-- Turns at one book, one after another: each met the book that the one before left. In between the book may have learnt of more files.
abbrev pub AreTurns : {D : Type 0} → Ghosts D → Kept D → List Turn → Kept D → Type 0
AreTurns disk old [] new = new ≡ old
AreTurns {D} disk old (turn ∷ turns) new =
    (more : Contents) × (mid : Kept D) × IsWithin old.known more × IsTurnOf disk turn.entry (with_known old more) turn.answer mid × AreTurns disk mid turns new

-- the entry, if it was acknowledged
abbrev pub answered : Result Log (DeskError Log) → Entry → List Entry
answered (Ok receipt) entry = entry ∷ []
answered (Err fault) entry = []

-- the entries that were acknowledged, in order
abbrev pub acknowledged : List Turn → List Entry
acknowledged [] = []
acknowledged (turn ∷ turns) = answered turn.answer turn.entry ++ acknowledged turns

-- A book has these entries, each accepted in its place. Unless it is broken, they are stored, whatever a crash leaves of its disks. If it is broken, one entry
-- more was in hand, which was accepted too: whatever a crash leaves is what a stop may leave while that is put after these.
pub record Stands {D : Type 0} (disk : Ghosts D) (log : Log) (book : Kept D) : Type 0 where
  pub entries : book.journal.entries ≡ log
  pub legal : IsLegal book.known log
  pub whole : IsTrue disk.is_modelled → book.journal.broken ≡ false → AllStored (disk.may_leave book.journal.first) (disk.may_leave book.journal.second) log.entries
  pub torn : book.journal.broken ≡ true → (next : Entry) × IsLegal book.known (with_entry log next) × (IsTrue disk.is_modelled → (order : Order) × MayHoldNext order log.entries next (disk.may_leave book.journal.first) (disk.may_leave book.journal.second))

-- it is this log, or has one entry more
abbrev pub HasAtMostOneMore : Log → Log → Type 0
HasAtMostOneMore log held = (held ≡ log) ⊎ ((next : Entry) × (held ≡ with_entry log next))
