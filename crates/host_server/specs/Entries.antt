-- How a host gets an entry.
use Rattle.std.specs.Prelude.{◌≡◌, [], ◌∷◌, true, Option, Some, None, Result, Ok, Err}
use Rattle.site_change.specs.declared.refusals.ChangeError.{ChangeError}
use Rattle.site_change.specs.declared.refusals.ChangeError.TheVariants as change
use Rattle.site_change.specs.declared.refusals.ChangeRefusal.{ChangeRefusal}
use Rattle.change_journal.specs.Held.{Keeps}
use Rattle.site_change.specs.declared.entries.Entry.{Entry}
use Rattle.change_undo.specs.Histories.{may_take_memory}
use Rattle.host_answers.specs.declared.stops.Stop.{Stop}
use Rattle.host_answers.specs.declared.stops.Stop.TheVariants as stop
use Rattle.journaled_history.specs.declared.entry_faults.EntryFault.{EntryFault}
use Rattle.journaled_history.specs.declared.entry_faults.EntryFault.TheVariants as entry_fault
use Rattle.host_server.specs.declared.host.entry_errors.EntryError.{EntryError}
use Rattle.host_server.specs.declared.host.entry_errors.EntryError.TheVariants.{Refused, OutOfMemory, Device}
use Rattle.host_disk.specs.declared.disks.Disk.{Ghosts}
use Rattle.host_server.specs.Journals.{Puts, PutsInPart}

-- the error where a history answers so
abbrev pub of_change_error : ChangeError → EntryError
of_change_error (change.Refused why) = Refused why
of_change_error change.OutOfMemory = OutOfMemory

-- the error where the entry isn't put
abbrev pub of_entry_fault : EntryFault → EntryError
of_entry_fault entry_fault.OutOfMemory = OutOfMemory
of_entry_fault entry_fault.Device = Device

-- an error, as a house answers it
abbrev pub stop_of : EntryError → Stop
stop_of (Refused why) = stop.Refused why
stop_of OutOfMemory = stop.OutOfMemory
stop_of Device = stop.Device

-- a command is refused exactly where there is a reason, and by that
abbrev pub IsRefusedAs : {A : Type 0} → Option ChangeRefusal → Result A EntryError → Type 0
IsRefusedAs why (Ok answer) = why ≡ None
IsRefusedAs why (Err (Refused told)) = why ≡ Some told
IsRefusedAs why (Err OutOfMemory) = why ≡ None
IsRefusedAs why (Err Device) = why ≡ None

-- the same of an undo, but for a clash that memory may be too short to name
abbrev pub IsUndoRefusedAs : {A : Type 0} → Option ChangeRefusal → Result A EntryError → Type 0
IsUndoRefusedAs why (Ok answer) = why ≡ None
IsUndoRefusedAs why (Err (Refused told)) = why ≡ Some told
IsUndoRefusedAs why (Err OutOfMemory) = may_take_memory why ≡ true
IsUndoRefusedAs why (Err Device) = why ≡ None

-- the entry was put into the journal, if there is one; or the device failed in that; or nothing was put
abbrev pub IsEntered : {A D : Type 0} → (disk : Ghosts D) → Result A EntryError → Entry → Option (Keeps D) → Option (Keeps D) → Type 0
IsEntered disk (Ok answer) entry old new = Puts disk old (entry ∷ []) new
IsEntered disk (Err (Refused told)) entry old new = new ≡ old
IsEntered disk (Err OutOfMemory) entry old new = new ≡ old
IsEntered disk (Err Device) entry old new = PutsInPart disk old [] entry new
