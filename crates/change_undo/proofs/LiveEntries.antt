-- Which entries live, and the beginnings of a log.
use Rattle.std.proofs.Common.{◌≡◌, inl, inr, ℕ, zero, suc, ◌+◌, ◌-◌, ◌<◌, ◌==◌, nat_le, true, false, not, cond, List, [], ◌∷◌, ◌++◌, length, slice_get, Option, Some, None, option_map, refl, sym, ap, subst, ◌∙◌, arith}
use Rattle.std.specs.List.{Contains}
use Rattle.std.proofs.lemmas.Bool.{lt-leb}
use Rattle.byte_view.specs.Contents.{Contents}
use Rattle.host_names.specs.declared.cells.Cell.{Cell}
use Rattle.host_names.specs.declared.names.SiteName.{SiteName}
use Rattle.site_change.specs.declared.refusals.ChangeRefusal.TheVariants.{HistoryFull, NoSuchChange, AlreadyUndone, Clash}
use Rattle.site_change.specs.declared.commands.Command.{Command}
use Rattle.site_change.specs.Changes.{site_of_command}
use Rattle.site_change.proofs.Effects.{bytes_eq-itself}
use Rattle.site_change.specs.declared.entries.Entry.{Entry}
use Rattle.site_change.specs.declared.entries.Entry.TheVariants.{Change, Undo}
use Rattle.change_undo.specs.Clashes.{IsClash, clash}
use Rattle.change_undo.specs.Histories.{undone, is_among, live_from, live_changes, same_site, entry_at, marked, marked_entry, refusal_at, change_refusal, undo_refusal, IsLegalAfter, IsLegal}
use Rattle.change_log.specs.Logs.{Log, BeginsWith, empty_log, last_number, with_entry, with_only}
use Rattle.change_undo.proofs.LeavingOut.{live-at}
use Rattle.change_undo.proofs.Opened.{at_place}
use Rattle.change_undo.proofs.Places.{first_or_more}
use Rattle.change_undo.proofs.Runs.{entry_at-some, legal-runs}
use Rattle.change_undo.proofs.TheClash.{found_clash}

-- ---- what lives is an entry, and none of the undone ones

record IsListed (gone : List ℕ) (n : ℕ) (entries : List Entry) (k : ℕ) (command : Command) : Type 0 where
  place : ℕ
  number : k ≡ n + place
  there : slice_get entries place ≡ Some (Change command)
  lives : is_among gone k ≡ false

listed-later : (gone : List ℕ) (n : ℕ) (x : Entry) (entries : List Entry) (k : ℕ) (command : Command) → IsListed gone (n + 1) entries k command → IsListed gone n (x ∷ entries) k command
listed-later gone n x entries k command it = record { place = suc it.place; number = omega (arith, it.number); there = it.there; lives = it.lives }

listed : (gone : List ℕ) (n : ℕ) (entries : List Entry) (k : ℕ) (command : Command) → Contains (live_from gone n entries) (k, command) → IsListed gone n entries k command
listed gone n [] k command (i, within, is) = absurd (omega (arith, within))
listed gone n (Undo site j ∷ entries) k command at = listed-later gone n (Undo site j) entries k command (listed gone (n + 1) entries k command at)
listed gone n (Change other ∷ entries) k command at =
    let more = live_from gone (n + 1) entries in
    elim (is_among gone n) as (λ t. is_among gone n ≡ t → Contains (cond t more ((n, other) ∷ more)) (k, command) → IsListed gone n (Change other ∷ entries) k command) [
      | true ↦ λ e h. listed-later gone n (Change other) entries k command (listed gone (n + 1) entries k command h)
      | false ↦ λ e h. elim (first_or_more (n, other) more (k, command) h) [
        | inl here ↦
            let number : n ≡ k = ap (λ (x : ℕ × Command). x.0) here in record {
              place = 0;
              number = omega (arith, number);
              there = ap (λ (x : ℕ × Command). Some (Change x.1)) here;
              lives = ap (is_among gone) (sym number) ∙ e;
            }
        | inr later ↦ listed-later gone n (Change other) entries k command (listed gone (n + 1) entries k command later)
      ]
    ] refl at

pub live-entry : (log : Log) (k : ℕ) (command : Command) → Contains (live_changes log) (k, command)
    → (entry_at log k ≡ Some (Change command)) × (is_among (undone log.entries) k ≡ false)
live-entry log k command at =
    let it = listed (undone log.entries) (log.base + 1) log.entries k command at in
    (ap (entry_at log) it.number ∙ at_place log it.place (Change command) it.there, it.lives)

pub live-marked : (log : Log) (k : ℕ) (command : Command) → Contains (live_changes log) (k, command) → marked_entry log k ≡ Some (Change command, false)
live-marked log k command at =
    let it = live-entry log k command at in
    ap (option_map (marked (undone log.entries) k)) it.0 ∙ ap (λ t. Some (Change command, t)) it.1

place_of_number : (log : Log) (k : ℕ) (entry : Entry) → entry_at log k ≡ Some entry → slice_get log.entries (k - log.base - 1) ≡ Some entry
place_of_number log k entry e =
    elim (nat_le k log.base) as (λ t. cond t None (slice_get log.entries (k - log.base - 1)) ≡ Some entry → slice_get log.entries (k - log.base - 1) ≡ Some entry) [
      | true ↦ λ h. cc h
      | false ↦ λ h. h
    ] e

-- and an entry that is a change, and none of the undone ones, lives
pub entry-lives : (log : Log) (k : ℕ) (command : Command) → entry_at log k ≡ Some (Change command) → is_among (undone log.entries) k ≡ false
    → Contains (live_changes log) (k, command)
entry-lives log k command there lives =
    let number : log.base + 1 + (k - log.base - 1) ≡ k = omega (arith, entry_at-some log k (Change command) there) in
    let P : ℕ → Type 0 = λ m. Contains (live_changes log) (m, command) in
    subst P number (live-at (undone log.entries) (log.base + 1) (k - log.base - 1) log.entries command (place_of_number log k (Change command) there)
    (ap (is_among (undone log.entries)) number ∙ lives))

-- ---- an undo that nothing is against

itself : (site : SiteName) → same_site site site ≡ true
itself site = bytes_eq-itself site.0

pub not_refused : (uploads : Contents) (limit : ℕ) (log : Log) (k : ℕ) (command : Command) → Contains (live_changes log) (k, command) → last_number log < limit
    → clash uploads log k ≡ None → undo_refusal uploads limit log (site_of_command command) k ≡ None
not_refused uploads limit log k command at room none =
    let it = live-entry log k command at in
    let site = site_of_command command in
    ap (λ t. cond t (Some HistoryFull) (change_refusal uploads log site k)) (lt-leb limit (last_number log) room)
    ∙ ap (refusal_at uploads log site k) it.0
    ∙ ap (λ t. cond (not t) (Some NoSuchChange) (cond (is_among (undone log.entries) k) (Some AlreadyUndone) (option_map (λ later. Clash later.0 later.1) (clash uploads log k)))) (itself site)
    ∙ ap (λ t. cond t (Some AlreadyUndone) (option_map (λ later. Clash later.0 later.1) (clash uploads log k))) it.1
    ∙ ap (λ c. option_map (λ later. Clash later.0 later.1) c) none

pub no_clash-none : (uploads : Contents) (log : Log) (k : ℕ) → IsLegal uploads log → ((j : ℕ) (at : Cell) → IsClash uploads log k j at → ⊥)
    → clash uploads log k ≡ None
no_clash-none uploads log k legal none =
    let ran = legal-runs uploads log legal in
    elim (clash uploads log k) as (λ c. clash uploads log k ≡ c → c ≡ None) [
      | None ↦ λ e. refl
      | Some later ↦ λ e. absurd (none later.0 later.1 (found_clash uploads log k later.0 later.1 ran.0 ran.1 e))
    ] refl

-- ---- beginnings

legal-front : (uploads : Contents) (before : Log) (entries more : List Entry) → IsLegalAfter uploads before (entries ++ more) → IsLegalAfter uploads before entries
legal-front uploads before [] more legal = tt
legal-front uploads before (entry ∷ entries) more legal = (legal.0, legal-front uploads (with_entry before entry) entries more legal.1)

pub beginning-legal : (uploads : Contents) (log longer : Log) → BeginsWith longer log → IsLegal uploads longer → IsLegal uploads log
beginning-legal uploads log longer begins legal =
    let whole = subst (IsLegal uploads) begins.1 legal in
    (whole.0, legal-front uploads (with_only log []) log.entries begins.0 whole.1)

-- no log begins with one that is longer
pub not_longer : (entry : Entry) → BeginsWith empty_log (with_entry empty_log entry) → ⊥
not_longer entry (more, is) = let none : [] ≡ entry ∷ more = ap (λ (log : Log). log.entries) is in cc none
