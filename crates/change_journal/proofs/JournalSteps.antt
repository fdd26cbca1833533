-- What a put leaves of a journal.
use Rattle.std.proofs.Common.{◌≡◌, ◌⊎◌, ℕ, ◌+◌, ◌≤◌, Bool, IsTrue, false, true, refl, sym, subst, List, [], ◌∷◌, ◌++◌, length, ◌∙◌, ap, arith, length-append, All, Result, Err}
use Rattle.std.proofs.lemmas.Bool.{false≢true}
use Rattle.std.proofs.lemmas.List.Elements.{All-push}
use Rattle.change_log.specs.Logs.{IsWhole, Log, last_number, with_entry}
use Rattle.site_change.specs.declared.entries.Entry.{Entry}
use Rattle.host_disk.specs.Calls.{DiskCall}
use Rattle.record_file.specs.Failures.{MayFailPutting}
use Rattle.record_file.specs.Frames.{framed}
use Rattle.record_file.specs.declared.records.PutFault.{PutFault}
use Rattle.record_file.specs.declared.records.PutFault.TheVariants.{Broken, Device}
use Rattle.record_file.specs.declared.slots.Slots.{Slots}
use Rattle.record_file.specs.Pairs.{ArePaired, BothLeave, IsOldOrder, Order, first_of, order_of, second_of}
use Rattle.change_journal.specs.Held.{IsSound}
use Rattle.entry_texts.specs.Spells.{IsWritable, entry_text}
use Rattle.change_journal.specs.Texts.{AllStored, HoldsEntries, IsRecordOf, LeavesNext, MayHoldMore, MayHoldNext, texts}
use Rattle.entry_texts.proofs.Entries.{entry_length}
use Rattle.record_file.proofs.NotWhole.{framed_size}
use Rattle.record_file.proofs.OneRead.{paired_new}
use Rattle.record_file.proofs.PairSteps.{paired_reads}
use Rattle.change_journal.proofs.Entrywise.{next_holds, texts-push}

-- what is open is of version 2
pub order_new : (turned : Bool) → IsOldOrder (order_of turned) → ⊥
order_new false is = omega (arith, is)
order_new true is = omega (arith, is)

pub record_length : (entry : Entry) (bytes : List ℕ) → IsRecordOf entry bytes → (5 ≤ length bytes) × (length bytes ≤ 10470075)
record_length entry bytes spelled =
    let size : length bytes ≡ 4 + length (entry_text entry ++ 0 ∷ []) = ap length spelled.is ∙ framed_size (entry_text entry) (0 ∷ []) in (
      omega (arith, size, length-append (entry_text entry) (0 ∷ [])),
      omega (arith, size, length-append (entry_text entry) (0 ∷ []), entry_length entry spelled.writable),
    )

-- which calls of a put may fail
pub put_fails : {D : Type 0} (seen : D → List ℕ) (may_fail : D → DiskCall → Type 0) (front : List ℕ) (entry : Entry) (bytes : List ℕ) → IsRecordOf entry bytes
    → MayFailPutting seen may_fail front (length bytes) → MayFailPutting seen may_fail front (length (framed (entry_text entry)) + 1)
put_fails seen may_fail front entry bytes spelled fails =
    subst (MayFailPutting seen may_fail front) (ap length spelled.is ∙ length-append (framed (entry_text entry)) (0 ∷ [])) fails

abbrev not_put : PutFault → Result (Unit {0}) PutFault
not_put fault = Err fault

-- the device fails only of a journal that isn't broken
pub was_whole : (broken : Bool) (fault : PutFault) → (IsTrue broken → not_put fault ≡ not_put Broken) → fault ≡ Device → broken ≡ false
was_whole false fault refused is = refl
was_whole true fault refused is = let told = refused refl in absurd (cc (told, is))

module _ {D : Type 0} (moment : D → ℕ) (left_since : D → ℕ → List ℕ → Type 0) (may_leave : D → List ℕ → Type 0) where
  -- what is settled is stored
  pub all_stored : (slots : Slots D) (entries : List Entry) → All IsWritable entries → ArePaired may_leave slots (texts entries) → AllStored (may_leave (first_of slots)) (may_leave (second_of slots)) entries
  all_stored slots entries writable paired = λ a b here there. record { writable = writable; old = λ reads. absurd (paired_new may_leave slots (texts entries) paired a b here there reads); shut = paired_reads may_leave slots (texts entries) paired a b here there }

  -- while an entry is put after others
  pub next_moments : (order : Order) (first second new_first new_second : D) (entries : List Entry) (entry : Entry) → All IsWritable entries → IsWritable entry → (IsOldOrder order → ⊥) → BothLeave moment left_since order (texts entries) (entry_text entry) first second new_first new_second → (o : Order) × LeavesNext moment left_since o entries entry first second new_first new_second
  next_moments order first second new_first new_second entries entry writable lawful new run = (order, record { writable = All-push IsWritable entries entry writable lawful; old = λ is. absurd (new is); leaves = run })

  pub held_moments : (order : Order) (first second new_first new_second : D) (entries : List Entry) (entry : Entry) → All IsWritable entries → IsWritable entry → (IsOldOrder order → ⊥) → BothLeave moment left_since order (texts entries) (entry_text entry) first second new_first new_second
      → (a b : List ℕ) → left_since new_first (moment first) a → left_since new_second (moment second) b → HoldsEntries entries a b ⊎ HoldsEntries (entries ++ entry ∷ []) a b
  held_moments order first second new_first new_second entries entry writable lawful new run = λ a b here there.
      next_holds order entries entry a b (All-push IsWritable entries entry writable lawful) (λ is. absurd (new is)) (run.one.each a here) (run.other.each b there)

  module _ (counts : (d : D) (t : ℕ) (c : List ℕ) → t ≤ moment d → may_leave d c → left_since d t c) where
    -- what a crash leaves after a put that the device failed
    pub torn_after : (order : Order) (first second new_first new_second : D) (entries : List Entry) (entry : Entry) → All IsWritable entries → IsWritable entry → (IsOldOrder order → ⊥) → BothLeave moment left_since order (texts entries) (entry_text entry) first second new_first new_second → MayHoldMore (may_leave new_first) (may_leave new_second) entries
    torn_after order first second new_first new_second entries entry writable lawful new run = record {
      next = entry;
      order = order;
      left = record {
        writable = All-push IsWritable entries entry writable lawful;
        old = λ is. absurd (new is);
        one = λ c left. run.one.each c (counts new_first (moment first) c run.one.later left);
        other = λ c left. run.other.each c (counts new_second (moment second) c run.other.later left);
      };
    }

    -- the same of one that was refused, where an earlier one had failed
    pub torn_put : (old new : Slots D) (entries : List Entry) (entry : Entry) → All IsWritable entries → IsWritable entry → (old.records.broken ≡ true → MayHoldMore (may_leave (first_of old)) (may_leave (second_of old)) entries) → (old.records.broken ≡ true → new ≡ old)
        → (old.records.broken ≡ false → BothLeave moment left_since (order_of old.turned) (texts entries) (entry_text entry) (first_of old) (second_of old) (first_of new) (second_of new)) → MayHoldMore (may_leave (first_of new)) (may_leave (second_of new)) entries
    torn_put old new entries entry writable lawful was same run = by_case old.records.broken refl
      where
        by_case : (broken : Bool) → old.records.broken ≡ broken → MayHoldMore (may_leave (first_of new)) (may_leave (second_of new)) entries
        by_case true is = subst (λ (s : Slots D). MayHoldMore (may_leave (first_of s)) (may_leave (second_of s)) entries) (sym (same is)) (was is)
        by_case false is = torn_after (order_of old.turned) (first_of old) (second_of old) (first_of new) (second_of new) entries entry writable lawful (order_new old.turned) (run is)

-- a journal with the entry that was put
pub sound_with : {D : Type 0} (modelled : Bool) (may_leave : D → List ℕ → Type 0) (old new : Slots D) (before more : Log) (entry : Entry)
    → more ≡ with_entry before entry → IsWhole before → All IsWritable before.entries → IsWritable entry → old.records.position.count ≡ last_number before → new.records.position.count ≡ old.records.position.count + 1 → new.records.broken ≡ false → (old.records.broken ≡ true → new ≡ old)
    → (IsTrue modelled → old.records.broken ≡ false → ArePaired may_leave old (texts before.entries)) → (IsTrue modelled → ArePaired may_leave old (texts before.entries) → ArePaired may_leave new (texts before.entries ++ entry_text entry ∷ [])) → IsSound modelled may_leave new more
sound_with {D} modelled may_leave old new before more entry more_is all writable lawful count next whole same settled settles = record {
  whole = subst IsWhole (sym more_is) (ap (λ (l : Log). with_entry l entry) all);
  writable = subst (λ (l : Log). All IsWritable l.entries) (sym more_is) (All-push IsWritable before.entries entry writable lawful);
  count = omega (arith, next, count, ap last_number more_is, length-append before.entries (entry ∷ []));
  settled = λ is_modelled still.
      subst (λ (bodies : List (List ℕ)). ArePaired may_leave new bodies) (sym (ap (λ (l : Log). texts l.entries) more_is ∙ texts-push before.entries entry)) (settles is_modelled (settled is_modelled (was_whole old.records.broken refl)));
  torn = λ is_modelled broken. absurd (false≢true (sym whole ∙ broken));
}
  where
    was_whole : (broken : Bool) → old.records.broken ≡ broken → old.records.broken ≡ false
    was_whole true is = absurd (false≢true (sym whole ∙ ap (λ (s : Slots D). s.records.broken) (same is) ∙ is))
    was_whole false is = is
