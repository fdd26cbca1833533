-- What the undo of a change does at a desk.
use Rattle.std.proofs.Common.{◌≡◌, ℕ, ◌+◌, ◌<◌, ◌≤◌, nat_lt, nat_le, Bool, true, false, not, ◌&&◌, cond, List, [], ◌∷◌, ◌++◌, Option, Some, None, is_none, refl, sym, ap, ◌∙◌, arith, subst}
use Rattle.std.specs.Cmp.Lexicographic.{bytes_decides}
use Rattle.std.proofs.lemmas.Bool.Decides.{nat_tests}
use Rattle.host_names.specs.declared.cells.Cell.{Cell}
use Rattle.host_names.specs.declared.names.SiteName.{SiteName}
use Rattle.byte_view.specs.Contents.{Contents}
use Rattle.site_state.specs.States.{State}
use Rattle.site_change.specs.declared.commands.Command.{Command}
use Rattle.site_change.specs.declared.refusals.ChangeRefusal.{ChangeRefusal}
use Rattle.site_change.specs.declared.refusals.ChangeRefusal.TheVariants.{AlreadyUndone, HistoryFull, NoSuchChange, NotAChange}
use Rattle.site_change.specs.Changes.{run_from, site_of_command}
use Rattle.change_undo.specs.Clashes.{ChangesAt, TouchesAt, clash}
use Rattle.site_change.specs.declared.entries.Entry.{Entry}
use Rattle.site_change.specs.declared.entries.Entry.TheVariants as entry
use Rattle.change_undo.specs.Histories.{IsLegal, base_state, change_refusal, entry_at, is_among, live_changes, refusal_at, run, same_site, undo_refusal, undone as undone_in}
use Rattle.change_undo.specs.Live.{without}
use Rattle.change_log.specs.Logs.{Log, last_number, with_entry}
use Rattle.change_undo.proofs.Live.{live_changes-undo, live_from-rising}
use Rattle.change_undo.proofs.LiveEntries.{entry-lives, no_clash-none, not_refused}
use Rattle.change_undo.proofs.Places.{no_clash, placed}
use Rattle.change_undo.proofs.Runs.{clear_where_allowed, guard}
use Rattle.world_desk.specs.Desks.{Ask, DeskState, IsLawful, happens, is_published, is_taken}
use Rattle.world_desk.specs.Undoing.{IsFree, IsUndoRefused, IsUndone, LeavesOut, UndoesOrRefuses, after_undo}

-- an undo that is not refused gives the state of the others
abbrev pub Allowed : Type 0
Allowed = (uploads : Contents) (log : Log) (site : SiteName) (k : ℕ) → IsLegal uploads log → change_refusal uploads log site k ≡ None
    → (others : State) × (run uploads (with_entry log (entry.Undo site k)) ≡ Some others) × IsLegal uploads (with_entry log (entry.Undo site k))

-- the undo is taken exactly where there is no reason
taken : (limit n : ℕ) (reason : Option ChangeRefusal) (full : Bool) → nat_le limit n ≡ full → (nat_lt n limit && is_none reason) ≡ is_none (cond full (Some HistoryFull) reason)
taken limit n reason true e =
    let le : limit ≤ n = grind (arith, nat_tests) in
    let no : nat_lt n limit ≡ false = grind (arith, nat_tests) in
    ap (λ b. b && is_none reason) no
taken limit n reason false e =
    let lt : n < limit = grind (arith, nat_tests) in
    let yes : nat_lt n limit ≡ true = grind (arith, nat_tests) in
    ap (λ b. b && is_none reason) yes

none_of : (limit n : ℕ) (reason : Option ChangeRefusal) → cond (nat_le limit n) (Some HistoryFull) reason ≡ None → reason ≡ None
none_of limit n reason e = elim (nat_le limit n) as (λ b. cond b (Some HistoryFull) reason ≡ None → reason ≡ None) [ true ↦ λ x. absurd cc | false ↦ λ x. x ] e

-- what the desk does, where all that it has is shown
does : (d : DeskState) (site : SiteName) (k : ℕ) (is : Bool) → is_published d ≡ true → is_none (undo_refusal d.uploads d.limit d.log site k) ≡ is
    → happens d (Ask (entry.Undo site k)) ≡ cond is (record d { log = with_entry d.log (entry.Undo site k) }) d
does d site k is published none =
    let test : is_taken d (entry.Undo site k) ≡ is = taken d.limit (last_number d.log) (change_refusal d.uploads d.log site k) (nat_le d.limit (last_number d.log)) refl ∙ none in
    ap (λ b. cond (b && is_taken d (entry.Undo site k)) (record d { log = with_entry d.log (entry.Undo site k) }) d) published
    ∙ ap (λ b. cond b (record d { log = with_entry d.log (entry.Undo site k) }) d) test

undone : Allowed → (d : DeskState) (site : SiteName) (k : ℕ) → IsLawful d → is_published d ≡ true → (reason : Option ChangeRefusal) → undo_refusal d.uploads d.limit d.log site k ≡ reason
    → IsUndone reason site k d (happens d (Ask (entry.Undo site k)))
undone allowed d site k lawful published (Some reason) is = does d site k false published (ap is_none is)
undone allowed d site k lawful published None is =
    let it = allowed d.uploads d.log site k lawful.legal (none_of d.limit (last_number d.log) (change_refusal d.uploads d.log site k) is) in
    subst (LeavesOut site k d) (sym (does d site k true published (ap is_none is))) (record {
      state = it.0;
      now = it.1;
      without_it = ap (run_from d.uploads (base_state d.uploads d.log)) (sym (live_changes-undo d.log site k)) ∙ it.1;
      others = live_changes-undo d.log site k;
      same = refl;
    })

pub undoes_or_refuses : Allowed → (d : DeskState) (site : SiteName) (k : ℕ) → IsLawful d → UndoesOrRefuses d site k
undoes_or_refuses allowed d site k lawful published = undone allowed d site k lawful published (undo_refusal d.uploads d.limit d.log site k) refl

-- ---- a change that nothing is against

-- where no clash is found, no later change touches what this one changed
untouched_by : (uploads : Contents) (log : Log) (k j : ℕ) (at : Cell) → clash uploads log k ≡ None → k < j → ChangesAt uploads log k at → TouchesAt uploads log j at → ⊥
untouched_by uploads log k j at none later changed touched =
    let live = live_changes log in
    let low : ℕ = log.base + 1 in
    let start = base_state uploads log in
    let rising = live_from-rising (undone_in log.entries) low log.entries in
    no_clash uploads low k j changed.command touched.command start changed.state touched.state at live rising none
    (placed uploads low k changed.command start changed.state live rising changed.lives changed.place)
    (placed uploads low j touched.command start touched.state live rising touched.lives touched.place) later changed.changed touched.touched

-- the entry is a change of the site, which no undo names
record IsNamed (log : Log) (site : SiteName) (k : ℕ) (found : Option Entry) : Type 0 where
  command : Command
  there : found ≡ Some (entry.Change command)
  own : same_site (site_of_command command) site ≡ true
  lives : is_among (undone_in log.entries) k ≡ false

negated : (b : Bool) → not b ≡ false → b ≡ true
negated true e = refl
negated false e = cc e

named_at : (uploads : Contents) (log : Log) (site : SiteName) (k : ℕ) (found : Option Entry) → refusal_at uploads log site k found ≡ None → IsNamed log site k found
named_at uploads log site k None h = cc h
named_at uploads log site k (Some (entry.Undo other j)) h = cc (guard (same_site other site) NotAChange (Some NoSuchChange) h).1
named_at uploads log site k (Some (entry.Change command)) h =
    let at_site = guard (not (same_site (site_of_command command) site)) NoSuchChange _ h in
    let live = guard (is_among (undone_in log.entries) k) AlreadyUndone _ at_site.1 in
    record { command = command; there = refl; own = negated _ at_site.0; lives = live.0 }

one_site : (a b : SiteName) → same_site a b ≡ true → a ≡ b
one_site a b e = let bytes = (bytes_decides a.0 b.0).0 e in λ i. record { 0 = bytes i }

pub free_of_reasons : (d : DeskState) (site : SiteName) (k : ℕ) → undo_refusal d.uploads d.limit d.log site k ≡ None → IsFree d site k
free_of_reasons d site k none =
    let parts = guard (nat_le d.limit (last_number d.log)) HistoryFull (change_refusal d.uploads d.log site k) none in
    let it = named_at d.uploads d.log site k (entry_at d.log k) parts.1 in
    record {
      command = it.command;
      lives = entry-lives d.log k it.command it.there it.lives;
      own = one_site (site_of_command it.command) site it.own;
      untouched = λ j at. untouched_by d.uploads d.log k j at (clear_where_allowed d.uploads d.log site k parts.1);
      room = let test = parts.0 in grind (arith, nat_tests);
    }

pub no_reason : (d : DeskState) (site : SiteName) (k : ℕ) → IsLawful d → IsFree d site k → undo_refusal d.uploads d.limit d.log site k ≡ None
no_reason d site k lawful free =
    let P : SiteName → Type 0 = λ s. undo_refusal d.uploads d.limit d.log s k ≡ None in
    let none = no_clash-none d.uploads d.log k lawful.legal (λ j at clash. free.untouched j at clash.later clash.changed clash.touched) in
    subst P free.own (not_refused d.uploads d.limit d.log k free.command free.lives free.room none)

pub leaves_out : Allowed → (d : DeskState) (site : SiteName) (k : ℕ) → IsLawful d → is_published d ≡ true → IsFree d site k → LeavesOut site k d (after_undo d site k)
leaves_out allowed d site k lawful published free = undone allowed d site k lawful published None (no_reason d site k lawful free)

refused_by : (d : DeskState) (site : SiteName) (k : ℕ) → is_published d ≡ true → ¬ (IsFree d site k) → (reason : Option ChangeRefusal)
    → undo_refusal d.uploads d.limit d.log site k ≡ reason → IsUndoRefused site k d (after_undo d site k)
refused_by d site k published not_free None is = absurd (not_free (free_of_reasons d site k is))
refused_by d site k published not_free (Some reason) is = record { reason = reason; refused = is; same = does d site k false published (ap is_none is) }

pub is_refused : (d : DeskState) (site : SiteName) (k : ℕ) → is_published d ≡ true → ¬ (IsFree d site k) → IsUndoRefused site k d (after_undo d site k)
is_refused d site k published not_free = refused_by d site k published not_free (undo_refusal d.uploads d.limit d.log site k) refl
