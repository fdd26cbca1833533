-- What the opening of two slots leaves of a journal.
use Rattle.std.proofs.Common.{arith, ◌≡◌, ◌⊎◌, ℕ, ◌≤◌, Bool, List, [], ◌∷◌, ◌++◌, length, cond, IsTrue, true, false, inl, inr, refl, sym, ◌∙◌, ap, subst, All}
use Rattle.std.proofs.lemmas.Bool.{false≢true}
use Rattle.change_log.specs.Logs.{IsWhole, Log, empty_log, last_number}
use Rattle.site_change.specs.declared.entries.Entry.{Entry}
use Rattle.record_file.specs.declared.faults.OpenFault.{OpenFault}
use Rattle.record_file.specs.declared.faults.OpenFault.TheVariants.{BadHeader, BadRecord, Device, OutOfMemory}
use Rattle.record_file.specs.declared.pairs.Opened.{Opened}
use Rattle.record_file.specs.declared.slots.Slots.{Slots}
use Rattle.record_file.specs.Openings.{IsExactly, MayBePut}
use Rattle.record_file.specs.Pairs.{ArePaired, AreForeign, AreRefused, BothLeave, FoundBoth, HasOpened, LeftOfFirst, LeftOfSecond, Order, ReadsBad, ReadsRecord, first_of, second_of}
use Rattle.record_file.specs.Slots.{AllStale}
use Rattle.record_file.specs.Walks.{HasCounted}
use Rattle.entry_texts.specs.Spells.{IsWritable, entry_text}
use Rattle.change_journal.specs.Files.{opened}
use Rattle.change_journal.specs.Held.{IsSound}
use Rattle.change_journal.specs.Texts.{AllStored, HoldsEntries, IsOne, IsText, LeavesNext, MayHoldNext, texts, in_first, in_second}
use Rattle.change_journal.proofs.HeldLawful.{held_no_bad}
use Rattle.change_journal.proofs.Entrywise.{found_entries, held_no_other, length-texts, may_be_put}
use Rattle.change_journal.proofs.JournalSteps.{all_stored}
use Rattle.record_file.proofs.OneRead.{found_not_bad, bad_known, found_not_foreign, lawful_found, record_known}
use Rattle.record_file.proofs.PairSteps.{opened_paired}

-- the bodies that were handed on are the texts of these entries
abbrev pub AreOf : Log → List (List ℕ) → Type 0
AreOf log bodies = (bodies ≡ texts log.entries) × All IsWritable log.entries × IsWhole log

pub none_taken : (log : Log) → log ≡ empty_log → AreOf log []
none_taken log none = subst (λ (l : Log). AreOf l []) (sym none) (refl, λ k d low. absurd (omega (arith, low)), refl)

-- two slots that were opened, by whether the second one is read
abbrev pub HasOpenedSo : {D : Type 0} → (seen : D → List ℕ) → (may_leave : D → List ℕ → Type 0) → Log → Opened → (old_first old_second first second : D) → Type 0
HasOpenedSo seen may_leave log at old_first old_second first second =
    HasOpened (AreOf log) (λ header before. IsText header) at.position.gate at.position.count (seen old_first) (seen old_second) (cond at.turned (seen second) (seen first)) (cond at.turned (may_leave second) (may_leave first)) (cond at.turned (may_leave first) (may_leave second))

module _ {D : Type 0} (seen : D → List ℕ) (may_leave : D → List ℕ → Type 0) (log : Log) (at : Opened) (old_first old_second first second : D) where
  pub opened_sound : (modelled : Bool) (slots : Slots D) (held : Log) → held ≡ log → first_of slots ≡ first → second_of slots ≡ second → slots.turned ≡ at.turned → slots.records.position ≡ at.position → slots.records.broken ≡ false
      → HasCounted (AreOf log) at.position.count → (IsTrue modelled → HasOpenedSo seen may_leave log at old_first old_second first second) → IsSound modelled may_leave slots held
  opened_sound modelled slots held held_is first_is second_is turned position whole_is counted has = record {
    whole = subst IsWhole (sym held_is) counted.has.2;
    writable = subst (λ (l : Log). All IsWritable l.entries) (sym held_is) counted.has.1;
    count = ap (λ p. p.count) position ∙ counted.count_is ∙ ap length counted.has.0 ∙ length-texts log.entries ∙ omega (arith, ap last_number counted.has.2) ∙ ap last_number (sym held_is);
    settled = λ is_modelled whole.
        let o = has is_modelled in
        let bodies_are : o.bodies ≡ texts held.entries = o.has.0 ∙ ap (λ (l : Log). texts l.entries) (sym held_is) in
        subst (ArePaired may_leave slots) bodies_are (opened_paired seen may_leave slots at first second o.bodies first_is second_is turned position whole_is o.made);
    torn = λ is_modelled broken. absurd (false≢true (sym whole_is ∙ broken));
  }

  module _ (o : HasOpenedSo seen may_leave log at old_first old_second first second) where
    found_bodies : FoundBoth o.bodies (seen old_first) (seen old_second)
    found_bodies = lawful_found (λ header before. IsText header) o.bodies (seen old_first) (seen old_second) o.found

    pub found_texts : FoundBoth (texts log.entries) (seen old_first) (seen old_second)
    found_texts = subst (λ (bs : List (List ℕ)). FoundBoth bs (seen old_first) (seen old_second)) o.has.0 found_bodies

    pub not_refused : at.position.count ≤ 1000000 → AreRefused (λ header before. IsText header) (seen old_first) (seen old_second) → ⊥
    not_refused few (inl foreign) = found_not_foreign o.bodies (seen old_first) (seen old_second) found_bodies foreign
    not_refused few (inr bad) = found_not_bad (λ header before. IsText header) bad.0 o.bodies (seen old_first) (seen old_second) (omega (arith, o.made.count_is, few)) o.found bad.1

    pub found_had : (had : List Entry) → HoldsEntries had (seen old_first) (seen old_second) → log.entries ≡ had
    found_had had held = found_entries log.entries had (seen old_first) (seen old_second) o.has.1 found_texts held

    pub is_one : IsOne (opened (texts log.entries) ++ 0 ∷ []) (seen first) (may_leave first) (seen second) (may_leave second)
    is_one = by_turn at.turned (subst (λ (bs : List (List ℕ)). IsExactly (opened bs ++ 0 ∷ []) (cond at.turned (seen second) (seen first)) (cond at.turned (may_leave second) (may_leave first))) o.has.0 o.made.exactly) o.made.stale
      where
        by_turn : (turned : Bool) → IsExactly (opened (texts log.entries) ++ 0 ∷ []) (cond turned (seen second) (seen first)) (cond turned (may_leave second) (may_leave first)) → AllStale 1 (cond turned (may_leave first) (may_leave second)) → IsOne (opened (texts log.entries) ++ 0 ∷ []) (seen first) (may_leave first) (seen second) (may_leave second)
        by_turn false exactly stale = in_first exactly stale
        by_turn true exactly stale = in_second exactly stale

-- slots that hold entries are refused for the device and for want of memory alone
pub stops_only : (fault : OpenFault) (had : List Entry) (first second : List ℕ) → length had ≤ 1000000 → HoldsEntries had first second → (fault ≡ BadHeader → AreForeign first second) → ((i : ℕ) → fault ≡ BadRecord i → ReadsBad (λ header before. IsText header) i first second)
    → (fault ≡ Device) ⊎ (fault ≡ OutOfMemory)
stops_only BadHeader had first second few held foreign bad = absurd (held_no_other had first second held (foreign refl))
stops_only (BadRecord i) had first second few held foreign bad = absurd (held_no_bad had i first second few held (bad i refl))
stops_only Device had first second few held foreign bad = inl refl
stops_only OutOfMemory had first second few held foreign bad = inr refl

-- slots that are no journal have no record that may lack memory
pub judged : (fault : OpenFault) (first second : List ℕ) → AreForeign first second → (fault ≡ OutOfMemory → ReadsRecord first second) → ((i : ℕ) → fault ≡ BadRecord i → ReadsBad (λ header before. IsText header) i first second)
    → (fault ≡ BadHeader) ⊎ (fault ≡ Device)
judged BadHeader first second none memory bad = inl refl
judged (BadRecord i) first second none memory bad = absurd (bad_known (λ header before. IsText header) i first second (bad i refl) none)
judged Device first second none memory bad = inr refl
judged OutOfMemory first second none memory bad = absurd (record_known first second (memory refl) none)

-- what is left while two slots with such entries are opened
pub opening_moments : {D : Type 0} (moment : D → ℕ) (left_since : D → ℕ → List ℕ → Type 0) (may_leave : D → List ℕ → Type 0) (order : Order) (first second new_first new_second : D) (had : List Entry) (next : Entry) → MayHoldNext order had next (may_leave first) (may_leave second)
    → (MayBePut (texts had) (entry_text next) → BothLeave moment left_since order (texts had) (entry_text next) first second new_first new_second) → LeavesNext moment left_since order had next first second new_first new_second
opening_moments moment left_since may_leave order first second new_first new_second had next left run = record { writable = left.writable; old = left.old; leaves = run (may_be_put had next left.writable) }
