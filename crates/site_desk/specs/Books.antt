-- What a book keeps, and what becomes of it.
use Rattle.std.specs.Prelude.{◌≡◌, ℕ, ◌+◌, ◌≤◌, Bool, Option, Result, Ok, Err, unwrap_or, refl}
use Rattle.std.specs.Coded.{Coded, code_by, coded×, coded_bool}
use Rattle.std.specs.FinMap as map
use Rattle.byte_view.specs.Contents.{Contents}
use Rattle.host_names.specs.declared.names.SiteName.{SiteName}
use Rattle.host_disk.specs.declared.disks.Disk.{Ghosts}
use Rattle.site_state.specs.States.{State}
use Rattle.site_change.specs.declared.commands.Command.{Command}
use Rattle.site_change.specs.declared.refusals.ChangeRefusal.{ChangeRefusal}
use Rattle.site_change.specs.declared.entries.Entry.{Entry}
use Rattle.change_log.specs.Logs.{Log, last_number}
use Rattle.change_undo.specs.Histories as histories
use Rattle.change_undo.specs.Histories.{Past, run}
use Rattle.change_undo.specs.Plans.{IsHistoryOver}
use Rattle.change_journal.specs.Held.{Keeps}
use Rattle.journaled_history.specs.Puts.{IsPut, IsPutInVain}
use Rattle.site_desk.specs.declared.errors.DeskError.{DeskError}
use Rattle.site_desk.specs.declared.errors.DeskError.TheVariants.{Device}

-- what a book keeps: the uploads that it knows, and its journal, which has its entries
pub record Kept (D : Type 0) : Type 0 where
  pub known : Contents
  pub journal : Keeps D

-- it is stored as its parts in a row
abbrev pub coded_kept : {D : Type 0} → Coded Contents → Coded Log → Coded D → Coded (Kept D)
coded_kept {D = D} known log disk =
    code_by (Contents × (Log × (Bool × (D × D)))) (coded× known (coded× log (coded× coded_bool (coded× disk disk))))
    (λ k. (k.known, (k.journal.entries, (k.journal.broken, (k.journal.first, k.journal.second)))))
    (λ t. record { known = t.0; journal = record { entries = t.1.0; broken = t.1.1.0; first = t.1.1.1.0; second = t.1.1.1.1 } }) (λ _. refl)

-- the same with these uploads
abbrev pub with_known : {D : Type 0} → Kept D → Contents → Kept D
with_known kept known = record { known = known; journal = kept.journal }

-- the state: what the changes that no undo names give from the base
abbrev pub state_of : {D : Type 0} → Kept D → State
state_of kept = unwrap_or (run kept.known kept.journal.entries) map.empty

-- the first reason to refuse a command as the next entry
abbrev pub commit_refusal : {D : Type 0} → Kept D → Command → Option ChangeRefusal
commit_refusal kept command = histories.commit_refusal kept.known 1000000 kept.journal.entries (state_of kept) command

-- the first reason to refuse the undo of a change of this site
abbrev pub undo_refusal : {D : Type 0} → Kept D → SiteName → ℕ → Option ChangeRefusal
undo_refusal kept site change = histories.undo_refusal kept.known 1000000 kept.journal.entries site change

-- The entry was put into the journal, which tells what a crash may leave of its disks at any moment of that and then; or a device failed in that, so
-- that the disks may hold it or not, and nothing more is put; or nothing changed. The uploads that are known stay.
abbrev pub IsEntered : {A S D : Type 0} → Ghosts D → Result A (DeskError S) → Entry → Kept D → Kept D → Type 0
IsEntered disk (Ok receipt) entry old new = IsPut disk old.journal entry new.journal × (new.known ≡ old.known)
IsEntered disk (Err Device) entry old new = IsPutInVain disk old.journal entry new.journal × (new.known ≡ old.known)
IsEntered disk (Err other) entry old new = new ≡ old

-- ---- what private functions say

-- there are as many entries as were there at the opening and as were made from seats, and no more than any history has; the log was pushed no oftener
pub record IsCounted (named opening total pushed : ℕ) (log : Log) : Type 0 where
  pub opened : opening ≡ named
  pub counted : opening + total ≡ last_number log
  pub few : last_number log ≤ 1000000
  pub pushes : pushed ≤ last_number log

-- The history has the greatest limit, and the entries of the journal and of what is published; over the known uploads it is what it is.
pub record IsBook (past : Past) (known : Contents) (put published : Log) : Type 0 where
  pub limited : past.limit ≡ 1000000
  pub journaled : put ≡ past.entries
  pub shown : published ≡ past.entries
  pub over : IsHistoryOver known past
