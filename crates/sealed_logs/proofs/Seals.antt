-- What a sealed log is.
use Rattle.std.proofs.Common.{◌≡◌, inl, inr, ℕ, ◌+◌, ◌-◌, ◌<◌, ◌≤◌, ◌==◌, nat_le, nat_lt, Bool, true, false, cond, ◌||◌, List, [], ◌∷◌, ◌++◌, length, take, drop, Option, Some, None, is_none, option_map, unwrap_or, refl, sym, ap, subst, ◌∙◌, arith, IsTrue}
use Rattle.std.specs.FinMap as map
use Rattle.std.proofs.Math.Seq.{take-append_seam, drop-append_seam}
use Rattle.std.proofs.lemmas.Bool.{eqb-true, leb-false, lt-leb, le-leb, ltb-false, le-ltb, ne_eqb}
use Rattle.std.proofs.lemmas.List.{append-nil, append_assoc, length-append, take-append-drop, length-take-le}
use Rattle.byte_view.specs.Contents.{Contents, AreDigested}
use Rattle.host_names.specs.declared.names.SiteName.{SiteName}
use Rattle.site_state.specs.States.{State}
use Rattle.site_change.specs.declared.entries.Entry.{Entry}
use Rattle.site_change.specs.declared.entries.Entry.TheVariants.{Change, Undo}
use Rattle.change_log.specs.Bases.{IsBase, Names, names_of, resolved}
use Rattle.change_log.specs.Logs.{Log, entry_at, last_number, next_number, with_entries, with_entry, with_only}
use Rattle.change_log.proofs.Resolving.{resolved-names, resolved-uploaded}
use Rattle.change_undo.specs.Clashes.{clash}
use Rattle.change_undo.specs.Histories.{IsLegal, IsLegalAfter, change_refusal, refusal_at}
use Rattle.change_undo.specs.LiveChanges.{base_state, is_among, live_changes, run, undone}
use Rattle.site_change.specs.declared.refusals.ChangeRefusal.TheVariants as reason
use Rattle.change_undo.proofs.Live.{live_from-rising}
use Rattle.change_undo.proofs.Runs.{guard, legal-runs}
use Rattle.site_change.proofs.UploadedRuns.{run_uploaded}
use Rattle.sealed_logs.specs.Sealing.{NoSuchEntry, SealRefusal, Sealed, Splits, above, seal_refusal, sealed, split_in, up_to}
use Rattle.sealed_logs.proofs.Bases.{base-of-state, state-of-base}
use Rattle.sealed_logs.proofs.Exclusive.{NeverBoth}
use Rattle.sealed_logs.proofs.States.{base_never, state-run}
use Rattle.sealed_logs.proofs.Runs.{NamesWithin, either_false, legal-joined, legal-parts, names-legal}
use Rattle.sealed_logs.proofs.Splits.{AreAbove, Parts, above-append, above-parts, above-split, clash-split, last-split, legal-split, legal-unsplit, live-below, refusal-split, rest_of, run-split, split-above}

-- ---- what it means that nothing is against a seal

-- the log in two parts, of which the first goes
pub record Cut (log : Log) (n : ℕ) : Type 0 where
  pub xs : List Entry
  pub ys : List Entry
  pub joined : log.entries ≡ xs ++ ys
  pub at : n ≡ log.base + length xs
  pub some : log.base < n
  pub are : AreAbove n ys
  pub first : up_to n log ≡ with_only log xs
  pub second : above n log ≡ ys

no_split : (o : Option ℕ) → option_map Splits o ≡ None → o ≡ None
no_split None e = refl
no_split (Some u) e = cc e

pub cut : (log : Log) (n : ℕ) → seal_refusal log n ≡ None → Cut log n
cut log n ok =
    let there = guard (n == 0 || nat_lt (last_number log) n) NoSuchEntry _ ok in
    let free = guard (nat_le n log.base) Sealed _ there.1 in
    let more : log.base < n = leb-false n log.base free.0 in
    let last : n ≤ last_number log = ltb-false (last_number log) n (either_false (n == 0) (nat_lt (last_number log) n) there.0).1 in
    let k : ℕ = n - log.base in
    let size : length (take k log.entries) ≡ k = length-take-le k log.entries (omega (arith, more, last)) in
    record {
      xs = take k log.entries;
      ys = drop k log.entries;
      joined = sym (take-append-drop k log.entries);
      at = omega (arith, size, more);
      some = more;
      are = above-split n (n + 1) (drop k log.entries) (no_split (split_in n (n + 1) (above n log)) free.1);
      first = refl;
      second = refl;
    }

-- where a log is in two such parts, it can be sealed between them
pub cut-of : (log : Log) (n : ℕ) (xs ys : List Entry) → log.entries ≡ xs ++ ys → n ≡ log.base + length xs → log.base < n → AreAbove n ys
    → (seal_refusal log n ≡ None) × (up_to n log ≡ with_only log xs) × (above n log ≡ ys)
cut-of log n xs ys joined at some are =
    let k : n - log.base ≡ length xs = omega (arith, at) in
    let first : take (n - log.base) log.entries ≡ xs = ap (λ (m : ℕ). take m log.entries) k ∙ ap (take (length xs)) joined ∙ take-append_seam xs ys in
    let second : drop (n - log.base) log.entries ≡ ys = ap (λ (m : ℕ). drop m log.entries) k ∙ ap (drop (length xs)) joined ∙ drop-append_seam xs ys in
    let last : n ≤ last_number log = omega (arith, at, ap (λ (l : List Entry). length l) joined, length-append xs ys) in
    let zero : (n == 0) ≡ false = ne_eqb n 0 (λ e. omega (arith, e, some)) in (
      ap (λ t. cond (t || nat_lt (last_number log) n) (Some NoSuchEntry) (cond (nat_le n log.base) (Some Sealed) (option_map Splits (split_in n (n + 1) (above n log))))) zero
          ∙ ap (λ t. cond t (Some NoSuchEntry) (cond (nat_le n log.base) (Some Sealed) (option_map Splits (split_in n (n + 1) (above n log))))) (le-ltb (last_number log) n last)
          ∙ ap (λ t. cond t (Some Sealed) (option_map Splits (split_in n (n + 1) (above n log)))) (lt-leb n log.base some)
          ∙ ap (option_map Splits) (ap (split_in n (n + 1)) second ∙ split-above n (n + 1) ys are),
      ap (with_only log) first,
      second,
    )

-- ---- of a legal log

pub legal-cut : (uploads : Contents) (log : Log) (n : ℕ) (c : Cut log n) → IsLegal uploads log
    → IsLegalAfter uploads (with_only log []) c.xs × IsLegalAfter uploads (with_only log c.xs) c.ys
legal-cut uploads log n c legal =
    legal-parts uploads (with_only log []) c.xs c.ys (subst (IsLegalAfter uploads (with_only log [])) c.joined legal.1)

-- the parts of a legal log, and the state that the first leaves
pub parts-of : (uploads : Contents) (log : Log) (n : ℕ) (c : Cut log n) → AreDigested uploads → IsLegal uploads log
    → (state : State) × Parts uploads log c.xs n (names_of state) × (sealed uploads n log ≡ rest_of n (names_of state) c.ys)
parts-of uploads log n c digested legal =
    let two = legal-cut uploads log n c legal in
    let first : IsLegal uploads (with_only log c.xs) = (legal.0, two.0) in
    let ran = legal-runs uploads (with_only log c.xs) first in
    let all = run_uploaded uploads digested (base_state uploads log) (live_changes (with_only log c.xs)) ran.0 (resolved-uploaded uploads digested log.names legal.0.known) ran.1 in (
      ran.0,
      record { at = c.at; known = names-legal uploads (with_only log c.xs) first; ran = ran.1 ∙ ap Some (sym (resolved-names uploads ran.0 all)) },
      ap (λ (s : State). rest_of n (names_of s) (above n log)) (ap (λ o. unwrap_or o map.empty) (ap (run uploads) c.first ∙ ran.1))
          ∙ ap (rest_of n (names_of ran.0)) c.second,
    )

run-of : (uploads : Contents) (log : Log) (n : ℕ) (c : Cut log n) (digested : AreDigested uploads) (legal : IsLegal uploads log)
    → run uploads (with_only log c.xs) ≡ Some (parts-of uploads log n c digested legal).0
unfolding parts-of
run-of uploads log n c digested legal = (legal-runs uploads (with_only log c.xs) (legal.0, (legal-cut uploads log n c legal).0)).1

-- what the first part leaves may be a base
pub base-of : (uploads : Contents) (digested : AreDigested uploads) (log : Log) (n : ℕ) (xs : List Entry) (state : State) → IsBase uploads log.base log.names
    → n ≡ log.base + length xs → run uploads (with_only log xs) ≡ Some state → IsBase uploads n (names_of state)
base-of uploads digested log n xs state base at ran =
    base-of-state uploads n state
    (state-run uploads digested log.base n (base_state uploads log) state (live_changes (with_only log xs)) (state-of-base uploads log.base log.names digested base) (omega (arith, at))
    (live_from-rising (undone xs) (log.base + 1) xs) (live-below (undone xs) (log.base + 1) (n + 1) xs (omega (arith, at))) ran)

-- (a) a sealed log is legal
pub sealed-legal : (uploads : Contents) (log : Log) (n : ℕ) → AreDigested uploads → IsLegal uploads log → seal_refusal log n ≡ None → IsLegal uploads (sealed uploads n log)
sealed-legal uploads log n digested legal ok =
    let c = cut log n ok in
    let p = parts-of uploads log n c digested legal in
    let two = legal-cut uploads log n c legal in
    let ran = run-of uploads log n c digested legal in
    let whole = subst (λ es. IsLegalAfter uploads (with_only log es) c.ys) (sym (append-nil c.xs)) two.1 in
    subst (IsLegal uploads) (sym p.2) (
      base-of uploads digested log n c.xs p.0 legal.0 c.at ran,
      legal-split uploads log c.xs n (names_of p.0) p.1 [] c.ys tt c.are whole,
    )

-- (a) and has the same state
pub sealed-run : (uploads : Contents) (log : Log) (n : ℕ) → AreDigested uploads → IsLegal uploads log → seal_refusal log n ≡ None → run uploads (sealed uploads n log) ≡ run uploads log
sealed-run uploads log n digested legal ok =
    let c = cut log n ok in
    let p = parts-of uploads log n c digested legal in
    ap (run uploads) p.2 ∙ sym (run-split uploads log c.xs n (names_of p.0) p.1 c.ys c.are) ∙ sym (ap (λ es. run uploads (with_only log es)) c.joined)

pub sealed-last : (uploads : Contents) (log : Log) (n : ℕ) → AreDigested uploads → IsLegal uploads log → seal_refusal log n ≡ None → last_number (sealed uploads n log) ≡ last_number log
sealed-last uploads log n digested legal ok =
    let c = cut log n ok in
    let p = parts-of uploads log n c digested legal in
    ap last_number p.2 ∙ sym (last-split uploads log c.xs n (names_of p.0) p.1 c.ys) ∙ sym (ap (λ es. last_number (with_only log es)) c.joined)

-- (c) the undo of a change above the seal is refused for the same reason, with the same clash
pub sealed-refusal : (uploads : Contents) (log : Log) (n : ℕ) (site : SiteName) (k : ℕ) → AreDigested uploads → IsLegal uploads log → seal_refusal log n ≡ None → n < k
    → change_refusal uploads (sealed uploads n log) site k ≡ change_refusal uploads log site k
sealed-refusal uploads log n site k digested legal ok more =
    let c = cut log n ok in
    let p = parts-of uploads log n c digested legal in
    ap (λ l. change_refusal uploads l site k) p.2 ∙ sym (refusal-split uploads log c.xs n (names_of p.0) p.1 c.ys site k c.are more)
    ∙ sym (ap (λ es. change_refusal uploads (with_only log es) site k) c.joined)

pub sealed-clash : (uploads : Contents) (log : Log) (n k : ℕ) → AreDigested uploads → IsLegal uploads log → seal_refusal log n ≡ None → n < k
    → clash uploads (sealed uploads n log) k ≡ clash uploads log k
sealed-clash uploads log n k digested legal ok more =
    let c = cut log n ok in
    let p = parts-of uploads log n c digested legal in
    ap (λ l. clash uploads l k) p.2 ∙ sym (clash-split uploads log c.xs n (names_of p.0) p.1 c.ys k c.are more) ∙ sym (ap (λ es. clash uploads (with_only log es) k) c.joined)

-- (c) what is sealed and then has entries more is the log with these, sealed
pub sealed-more : (uploads : Contents) (log : Log) (n : ℕ) (more : List Entry) → seal_refusal log n ≡ None → AreAbove n more
    → (seal_refusal (with_entries log more) n ≡ None) × (sealed uploads n (with_entries log more) ≡ with_entries (sealed uploads n log) more)
sealed-more uploads log n more ok are =
    let c = cut log n ok in
    let joined : log.entries ++ more ≡ c.xs ++ (c.ys ++ more) = ap (λ es. es ++ more) c.joined ∙ append_assoc c.xs c.ys more in
    let long = cut-of (with_entries log more) n c.xs (c.ys ++ more) joined c.at c.some (above-append n c.ys more c.are are) in (
      long.0,
      ap (λ (s : State). rest_of n (names_of s) (above n (with_entries log more))) (ap (λ o. unwrap_or o map.empty) (ap (run uploads) (long.1 ∙ sym c.first)))
          ∙ ap (rest_of n (names_of (unwrap_or (run uploads (up_to n log)) map.empty))) (long.2 ∙ sym (ap (λ es. es ++ more) c.second)),
    )

-- a seal above another one
pub sealed-twice : (uploads : Contents) (log : Log) (n m : ℕ) → AreDigested uploads → IsLegal uploads log → seal_refusal log n ≡ None → seal_refusal (sealed uploads n log) m ≡ None
    → (seal_refusal log m ≡ None) × (sealed uploads m log ≡ sealed uploads m (sealed uploads n log))
sealed-twice uploads log n m digested legal ok again =
    let c = cut log n ok in
    let p = parts-of uploads log n c digested legal in
    let s = rest_of n (names_of p.0) c.ys in
    let d = cut s m (subst (λ l. seal_refusal l m ≡ None) p.2 again) in
    let joined : log.entries ≡ (c.xs ++ d.xs) ++ d.ys = c.joined ∙ ap (λ es. c.xs ++ es) d.joined ∙ sym (append_assoc c.xs d.xs d.ys) in
    let low : AreAbove n d.xs = (above-parts n d.xs d.ys (subst (AreAbove n) d.joined c.are)).0 in
    let long = cut-of log m (c.xs ++ d.xs) d.ys joined (omega (arith, c.at, d.at, length-append c.xs d.xs)) (omega (arith, c.some, d.some)) d.are in
    let state : run uploads (up_to m log) ≡ run uploads (up_to m s) =
    ap (run uploads) long.1 ∙ run-split uploads log c.xs n (names_of p.0) p.1 d.xs low ∙ sym (ap (run uploads) d.first) in (
      long.0,
      ap (λ (t : State). rest_of m (names_of t) (above m log)) (ap (λ o. unwrap_or o map.empty) state)
          ∙ ap (rest_of m (names_of (unwrap_or (run uploads (up_to m s)) map.empty))) (long.2 ∙ sym d.second)
          ∙ sym (ap (sealed uploads m) p.2),
    )

-- entries that may follow a sealed log may follow the log
pub unsealed-legal : (uploads : Contents) (log : Log) (n : ℕ) (more : List Entry) → AreDigested uploads → IsLegal uploads log → seal_refusal log n ≡ None
    → IsLegal uploads (with_entries (sealed uploads n log) more) → AreAbove n more × IsLegal uploads (with_entries log more)
unsealed-legal uploads log n more digested legal ok after =
    let c = cut log n ok in
    let p = parts-of uploads log n c digested legal in
    let tail : IsLegalAfter uploads (rest_of n (names_of p.0) c.ys) more =
    (legal-parts uploads (rest_of n (names_of p.0) []) c.ys more (subst (λ (l : Log). IsLegalAfter uploads (with_only l []) (l.entries ++ more)) p.2 after.1)).1 in
    let back = legal-unsplit uploads log c.xs n (names_of p.0) p.1 c.ys more c.are tail in
    let end = subst (λ es. IsLegalAfter uploads (with_only log es) more) (sym c.joined) back.1 in
    (back.0, (legal.0, legal-joined uploads (with_only log []) log.entries more legal.1 end))

-- a log that ends with an undo can be sealed before it only below the change that it names
pub split_number : (log : Log) (n : ℕ) (site : SiteName) (k : ℕ) → seal_refusal (with_entry log (Undo site k)) n ≡ None → n ≤ last_number log → n < k
split_number log n site k ok before =
    let c = cut (with_entry log (Undo site k)) n ok in
    let short : length c.xs ≤ length log.entries = omega (arith, c.at, before) in
    (ends c.xs c.ys log.entries c.joined short c.are)
  where
    ends : (xs ys es : List Entry) → es ++ Undo site k ∷ [] ≡ xs ++ ys → length xs ≤ length es → AreAbove n ys → n < k
    ends [] ys es joined short above = (above-parts n es (Undo site k ∷ []) (subst (AreAbove n) (sym joined) above)).1.0
    ends (x ∷ xs) ys [] joined short above = absurd (omega (arith, short))
    ends (x ∷ xs) ys (e ∷ es) joined short above = ends xs ys es (cc joined) (omega (arith, short)) above

-- ---- deploys

-- no deploy is open and kept at once in the state of a legal log
pub never-both : (uploads : Contents) (log : Log) (state : State) → AreDigested uploads → IsLegal uploads log → run uploads log ≡ Some state → NeverBoth state
never-both uploads log state digested legal ran =
    let n : ℕ = last_number log in
    base_never uploads n state
    (state-run uploads digested log.base n (base_state uploads log) state (live_changes log) (state-of-base uploads log.base log.names digested legal.0) (omega arith)
    (live_from-rising (undone log.entries) (log.base + 1) log.entries) (live-below (undone log.entries) (log.base + 1) (n + 1) log.entries (omega arith)) ran)
