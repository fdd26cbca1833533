-- What is opened of a file that a crash left after a boot.
use Rattle.std.proofs.Common.{◌≡◌, ◌+◌, ◌<◌, ◌≤◌, ℕ, List, [], ◌∷◌, ◌++◌, length, take, Option, Some, None, Result, Ok, Err, refl, sym, ap, subst, inl, inr, ⊎_elim, arith, length-append}
use Rattle.std.specs.Option.{IfSome, IsNone, option_map}
use Rattle.std.specs.Prelude.{IfOk}
use Rattle.std.proofs.lemmas.List.{length-take}
use Rattle.site_change.specs.declared.entries.Entry.{Entry}
use Rattle.change_log.specs.Logs.{Log}
use Rattle.change_journal.specs.Texts.{HoldsEntries, MayHoldNext}
use Rattle.journal_stops.specs.Boots.{HasNext, HasPuts, IsReopened, LeavesPuts, acknowledged_of}
use Rattle.record_file.specs.Pairs.{Order}
use Rattle.change_journal.proofs.Entrywise.{one_each}
use Rattle.journal_stops.proofs.Puts.{Splits, holds_puts}

module _ (had opened : List Entry) (next : Entry) (entries : List Entry) (few : length had + length entries < 1000000) (first second : List ℕ → Type 0) (a b : List ℕ) (here : first a) (there : second b)
    (left : Splits) (opens : (log : List Entry) → length log ≤ 1000000 → HoldsEntries log a b → opened ≡ log) where
  has_next : (order : Order) → MayHoldNext order had next first second → HasNext had next opened
  has_next order holds =
      ⊎_elim (λ was. inl (opens had (omega (arith, few)) was)) (λ more. inr (opens (had ++ next ∷ []) (omega (arith, few, length-append had (next ∷ []))) more)) (left order had next a b (one_each order had next first second a b holds here there))

  -- with what was put, they have no more entries than a journal may
  short : (log : List Entry) → HasNext had next log → (n : ℕ) → length (acknowledged_of log entries n) ≤ 1000000
  short log (inl is) n = omega (arith, few, ap length is, length-append log (take n entries), length-take n entries)
  short log (inr is) n = omega (arith, few, ap length is, length-append had (next ∷ []), length-append log (take n entries), length-take n entries)

  has_puts : (log : List Entry) → HasNext had next log → (count : ℕ) → LeavesPuts first second log entries count → HasPuts log entries count opened
  has_puts log found count leaves =
      let held = holds_puts first second log entries count leaves a b here there left in
      let bound = ⊎_elim (λ (is : held.0 ≡ acknowledged_of log entries count). subst (λ (l : List Entry). length l ≤ 1000000) (sym is) (short log found count))
      (λ more. subst (λ (l : List Entry). length l ≤ 1000000) (sym more.1) (short log found (count + 1))) held.2 in
      subst (HasPuts log entries count) (sym (opens held.0 bound held.1)) held.2

  room : (log : List Entry) → HasNext had next log → length log + length entries ≤ 1000000
  room log (inl is) = omega (arith, few, ap length is)
  room log (inr is) = omega (arith, few, ap length is, length-append had (next ∷ []))

  pub outcome : (order : Order) (found : Option (List Entry)) (count : ℕ) → (IsNone found → (count ≡ 0) × MayHoldNext order had next first second) → IfSome found (λ log. HasNext had next log)
      → IfSome found (λ log. length log + length entries ≤ 1000000 → LeavesPuts first second log entries count) → IsReopened had next entries found count opened
  outcome order None count unopened found put = let was = unopened refl in record { found_is = was.0; opened_is = has_next order was.1 }
  outcome order (Some log) count unopened found put = record { found_is = found; opened_is = has_puts log found count (put (room log found)) }

-- two facts of an answer give another
pub both_ok : {T E : Type 0} (result : Result T E) (P Q R : T → Type 0) → IfOk result P → IfOk result Q → ((x : T) → P x → Q x → R x) → IfOk result R
both_ok (Ok x) P Q R p q from = from x p q
both_ok (Err e) P Q R p q from = tt

-- what is said of a log that was found, if one was, is so of its entries
pub none_found : (found : Option Log) → IsNone (option_map (λ (log : Log). log.entries) found) → IsNone found
none_found None none = none
none_found (Some log) none = cc none

pub if_found : (P : List Entry → Type 0) (found : Option Log) → IfSome found (λ log. P log.entries) → IfSome (option_map (λ (log : Log). log.entries) found) P
if_found P None all = tt
if_found P (Some log) all = all
