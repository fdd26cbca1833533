-- An entry is made beside the old history, and put into the journal.
use Rattle.std.proofs.Common.{◌≡◌, ◌⊎◌, inl, inr, Option, Some, None, Result, Ok, Err, true, refl, sym, ap, subst}
use Rattle.change_journal.specs.Held.{Keeps}
use Rattle.site_change.specs.declared.entries.Entry.{Entry}
use Rattle.journaled_history.specs.declared.entry_faults.EntryFault.{EntryFault}
use Rattle.journaled_history.specs.declared.entry_faults.EntryFault.TheVariants.{Device, OutOfMemory}
use Rattle.host_server.specs.declared.host.entry_errors.EntryError.{EntryError}
use Rattle.host_server.specs.Entries.{IsEntered, IsUndoRefusedAs, of_entry_fault}
use Rattle.change_undo.specs.Histories.{may_take_memory}
use Rattle.change_log.specs.Logs.{Log, with_entry}
use Rattle.host_disk.specs.declared.disks.Disk.{Ghosts}
use Rattle.site_change.specs.declared.refusals.ChangeRefusal.{ChangeRefusal}
use Rattle.journaled_history.specs.Puts.{IsPut, IsPutInVain}
use Rattle.std.specs.Result.{IsErrAnd}

-- an error that is handed on
pub handed_on : {A : Type 0} (told : Result A EntryError) (f : EntryFault) → IsErrAnd told (λ error. error ≡ of_entry_fault f) → told ≡ Err (of_entry_fault f)
handed_on (Ok x) f is = absurd is
handed_on (Err error) f is = ap (λ (e : EntryError). Err e) is

module _ {D : Type 0} (disk : Ghosts D) where
  -- why the last entry of a log was not put
  abbrev pub IsMissed : EntryFault → Log → Keeps D → Keeps D → Type 0
  IsMissed f entries old new =
      ((f ≡ OutOfMemory) × (new ≡ old)) ⊎ ((f ≡ Device) × ((entry : Entry) → entries ≡ with_entry old.entries entry → IsPutInVain disk old entry new))

  error_put : (A : Type 0) (f : EntryFault) (entry : Entry) (entries : Log) (old new : Keeps D) → entries ≡ with_entry old.entries entry → IsMissed f entries old new
      → IsEntered {A = A} disk (Err (of_entry_fault f)) entry (Some old) (Some new)
  error_put A f entry entries old new longer (inl (is, same)) =
      subst (λ (x : EntryFault). IsEntered {A = A} disk (Err (of_entry_fault x)) entry (Some old) (Some new)) (sym is) (ap Some same)
  error_put A f entry entries old new longer (inr (is, in_vain)) =
      subst (λ (x : EntryFault). IsEntered {A = A} disk (Err (of_entry_fault x)) entry (Some old) (Some new)) (sym is)
      (record { mid = old; put = refl; last = new; in_vain = in_vain entry longer; is = refl })

  pub put_missed : {A : Type 0} (f : EntryFault) (told : Result A EntryError) (entry : Entry) (entries : Log) (old new : Keeps D)
      → entries ≡ with_entry old.entries entry → IsMissed f entries old new → told ≡ Err (of_entry_fault f) → IsEntered disk told entry (Some old) (Some new)
  put_missed {A = A} f told entry entries old new longer fault tells =
      subst (λ (r : Result A EntryError). IsEntered disk r entry (Some old) (Some new)) (sym tells) (error_put A f entry entries old new longer fault)

  pub put_whole : (A : Type 0) (answer : A) (entry : Entry) (entries : Log) (old new : Keeps D) → entries ≡ with_entry old.entries entry
      → ((last : Entry) → entries ≡ with_entry old.entries last → IsPut disk old last new) → IsEntered {A = A} disk (Ok answer) entry (Some old) (Some new)
  put_whole A answer entry entries old new longer put = (new, put entry longer, refl)

-- an undo that nothing refuses may still miss the journal
missed_unrefused : (A : Type 0) (f : EntryFault) (why : Option ChangeRefusal) → why ≡ None → IsUndoRefusedAs {A = A} why (Err (of_entry_fault f))
missed_unrefused A OutOfMemory why none = ap may_take_memory none
missed_unrefused A Device why none = none

pub unrefused : {A : Type 0} (f : EntryFault) (told : Result A EntryError) (why : Option ChangeRefusal) → why ≡ None → told ≡ Err (of_entry_fault f)
    → IsUndoRefusedAs why told
unrefused {A = A} f told why none tells =
    subst (λ (r : Result A EntryError). IsUndoRefusedAs why r) (sym tells) (missed_unrefused A f why none)
