-- What is left after some of a list of puts.
use Rattle.std.proofs.Common.{◌≡◌, ◌⊎◌, ◌+◌, ◌<◌, ◌≤◌, ℕ, zero, suc, List, [], ◌∷◌, ◌++◌, length, take, drop, refl, sym, ap, subst, ◌∙◌, inl, inr, ⊎_elim, arith}
use Rattle.std.proofs.lemmas.List.{append_assoc}
use Rattle.site_change.specs.declared.entries.Entry.{Entry}
use Rattle.record_file.proofs.OneRead.{shut_held}
use Rattle.record_file.specs.Pairs.{Order}
use Rattle.change_journal.proofs.Entrywise.{one_each}
use Rattle.change_journal.specs.Texts.{AllStored, HoldsEntries, IsStored, LeavesNext, MayHoldNext, texts}
use Rattle.journal_stops.specs.Boots.{HasPuts, LeavesPuts, acknowledged_of}

-- the next of a list's elements comes after those that were taken
pub take_next : (entries : List Entry) (n : ℕ) (e : Entry) (rest : List Entry) → drop n entries ≡ e ∷ rest → (n < length entries) × (take (n + 1) entries ≡ take n entries ++ e ∷ [])
take_next [] zero e rest is = cc is
take_next [] (suc n) e rest is = cc is
take_next (x ∷ xs) zero e rest is = (omega arith, cc is)
take_next (x ∷ xs) (suc n) e rest is =
    let more = take_next xs n e rest is in
    let on : suc n + 1 ≡ suc (n + 1) = omega arith in
    (omega (arith, more.0), ap (λ k. take k (x ∷ xs)) on ∙ ap (λ (l : List Entry). x ∷ l) more.1)

-- so do those that were acknowledged
pub one_more : (found : List Entry) (entries : List Entry) (n : ℕ) (e : Entry) (rest : List Entry) → drop n entries ≡ e ∷ rest
    → (n < length entries) × (acknowledged_of found entries n ++ e ∷ [] ≡ acknowledged_of found entries (n + 1))
one_more found entries n e rest is =
    let more = take_next entries n e rest is in
    (more.0, append_assoc found (take n entries) (e ∷ []) ∙ ap (λ (l : List Entry). found ++ l) (sym more.1))

-- those that are stored are held
pub stored_holds : (log : List Entry) (a b : List ℕ) → IsStored log a b → HoldsEntries log a b
stored_holds log a b stored = record { writable = stored.writable; old = stored.old; holds = shut_held (texts log) a b stored.shut }

-- all were put
pub all_put : (first second : List ℕ → Type 0) (found : List Entry) (entries : List Entry) (n : ℕ) → n ≤ length entries → drop n entries ≡ [] → AllStored first second (acknowledged_of found entries n)
    → LeavesPuts first second found entries n
all_put first second found entries n few none stored = record { few = few; all = λ _. stored; next = λ e rest is. cc (none, is) }

-- one was in hand
pub one_in_hand : (first second : List ℕ → Type 0) (found : List Entry) (entries : List Entry) (n : ℕ) (e : Entry) (rest : List Entry) → n ≤ length entries → drop n entries ≡ e ∷ rest
    → (order : Order) → MayHoldNext order (acknowledged_of found entries n) e first second → LeavesPuts first second found entries n
one_in_hand first second found entries n e rest few next order left = record {
  few = few;
  all = λ none. cc (none, next);
  next = λ other more is. (order, subst (λ (x : Entry). MayHoldNext order (acknowledged_of found entries n) x first second) (cc (next, is)) left);
}

-- what a run of calls left is what a crash may leave now
pub left_now : {D : Type 0} (moment : D → ℕ) (left_since : D → ℕ → List ℕ → Type 0) (may_leave : D → List ℕ → Type 0) → ((d : D) (t : ℕ) (c : List ℕ) → t ≤ moment d → may_leave d c → left_since d t c) → (order : Order) (log : List Entry) (entry : Entry) (first second new_first new_second : D)
    → LeavesNext moment left_since order log entry first second new_first new_second → MayHoldNext order log entry (may_leave new_first) (may_leave new_second)
left_now moment left_since may_leave counts order log entry first second new_first new_second next = record {
  writable = next.writable;
  old = next.old;
  one = λ c left. next.leaves.one.each c (counts new_first (moment first) c next.leaves.one.later left);
  other = λ c left. next.leaves.other.each c (counts new_second (moment second) c next.leaves.other.later left);
}

-- how what stops leave is split
abbrev pub Splits : Type 0
Splits = (order : Order) (log : List Entry) (entry : Entry) (a b : List ℕ) → MayHoldNext order log entry (λ c. c ≡ a) (λ c. c ≡ b) → HoldsEntries log a b ⊎ HoldsEntries (log ++ entry ∷ []) a b

-- whatever a crash leaves holds what was acknowledged, and at most one entry more
module _ (first second : List ℕ → Type 0) (found : List Entry) (entries : List Entry) (n : ℕ) (leaves : LeavesPuts first second found entries n) (a b : List ℕ) (here : first a) (there : second b) (left : Splits) where
  holds_by : (rest : List Entry) → drop n entries ≡ rest → (log : List Entry) × HoldsEntries log a b × HasPuts found entries n log
  holds_by [] is = (acknowledged_of found entries n, stored_holds (acknowledged_of found entries n) a b (leaves.all is a b here there), inl refl)
  holds_by (e ∷ rest) is =
      let log = acknowledged_of found entries n in
      let next = leaves.next e rest is in
      ⊎_elim (λ holds. (log, holds, inl refl)) (λ holds. let more = one_more found entries n e rest is in (log ++ e ∷ [], holds, inr more))
      (left next.0 log e a b (one_each next.0 log e first second a b next.1 here there))

  pub holds_puts : (log : List Entry) × HoldsEntries log a b × HasPuts found entries n log
  holds_puts = holds_by (drop n entries) refl
