-- Every step keeps a desk lawful.
use Rattle.std.proofs.Common.{◌≡◌, ℕ, zero, suc, ◌+◌, ◌<◌, ◌≤◌, nat_lt, ◌==◌, Bool, true, false, ◌&&◌, List, [], ◌∷◌, ◌++◌, replicate, cond, refl, ap, ◌∙◌, arith, subst}
use Rattle.std.proofs.lemmas.Bool.{and_parts}
use Rattle.std.proofs.lemmas.Bool.Decides.{nat_tests}
use Rattle.std.specs.FinMap as map
use Rattle.std.specs.List.{AllByRecursion}
use Rattle.byte_view.specs.Contents.{Contents}
use Rattle.site_change.specs.Changes.{IsWithin}
use Rattle.site_change.specs.declared.entries.Entry.{Entry}
use Rattle.change_undo.proofs.Runs.{legal-entry}
use Rattle.change_undo.specs.Histories.{IsLegal, is_allowed}
use Rattle.change_log.proofs.Longer.{last_number-with_entry, with_both}
use Rattle.change_log.proofs.Resolving.{base-empty}
use Rattle.change_log.specs.Logs.{Log, empty_log, last_number, with_entry}
use Rattle.world_desk.specs.Visitors.{SeesInOrder, looked, taught, unseen}
use Rattle.world_desk.specs.Desks.{Ask, DeskState, DeskStep, Enter, IsLawful, Learn, Publish, Upload, after_all, asked, happens, is_published, is_taken, start, with_upload}
use Rattle.world_desk.proofs.Changing.{all_changed, all_weaker, uploads_stay}
use Rattle.world_desk.proofs.Beginnings.{begins_itself, sees_later, sees_look, sees_taught}

-- a legal log stays legal as uploads grow
abbrev pub Outlasts : Type 0
Outlasts = (uploads more : Contents) (log : Log) → IsWithin uploads more → IsLegal uploads log → IsLegal more log

asked_lawful : (d : DeskState) (e : Entry) (taken : Bool) → (is_published d && is_taken d e) ≡ taken → IsLawful d
    → IsLawful (cond taken (record d { log = with_entry d.log e }) d)
asked_lawful d e false is lawful = lawful
asked_lawful d e true is lawful =
    let both = and_parts (is_published d) (is_taken d e) is in
    let parts = and_parts (nat_lt (last_number d.log) d.limit) (is_allowed d.uploads d.log e) both.1 in
    let room : last_number d.log < d.limit = let test = parts.0 in grind (arith, nat_tests) in
    let same : last_number d.shown ≡ last_number d.log = let test = both.0 in grind (arith, nat_tests) in
    let more : last_number (with_entry d.log e) ≡ last_number d.log + 1 = last_number-with_entry d.log e in
    record {
      legal = legal-entry d.uploads d.log e lawful.legal parts.1;
      room = omega arith;
      shown = (lawful.shown.0 ++ e ∷ [], ap (λ (l : Log). with_entry l e) lawful.shown.1 ∙ with_both d.shown lawful.shown.0 (e ∷ []));
      at_most_one = omega arith;
      seen = lawful.seen;
    }

pub step_lawful : Outlasts → (d : DeskState) (step : DeskStep) → IsLawful d → IsLawful (happens d step)
step_lawful outlasts d (Ask entry) lawful = asked_lawful d entry (is_published d && is_taken d entry) refl lawful
step_lawful outlasts d Publish lawful = record {
  legal = lawful.legal;
  room = lawful.room;
  shown = begins_itself d.log;
  at_most_one = omega arith;
  seen = all_weaker (SeesInOrder d.shown) (SeesInOrder d.log) (sees_later d.shown d.log lawful.shown) d.visitors lawful.seen;
}
step_lawful outlasts d (Enter v) lawful = record {
  legal = lawful.legal;
  room = lawful.room;
  shown = lawful.shown;
  at_most_one = lawful.at_most_one;
  seen = all_changed (SeesInOrder d.shown) (looked d.shown) (sees_look d.shown) v d.visitors lawful.seen;
}
step_lawful outlasts d (Learn v) lawful = record {
  legal = lawful.legal;
  room = lawful.room;
  shown = lawful.shown;
  at_most_one = lawful.at_most_one;
  seen = all_changed (SeesInOrder d.shown) (taught d.shown) (sees_taught d.shown) v d.visitors lawful.seen;
}
step_lawful outlasts d (Upload bytes) lawful = record {
  legal = outlasts d.uploads (with_upload d.uploads bytes) d.log (uploads_stay d.uploads bytes) lawful.legal;
  room = lawful.room;
  shown = lawful.shown;
  at_most_one = lawful.at_most_one;
  seen = lawful.seen;
}

all_unseen : (n : ℕ) → AllByRecursion (SeesInOrder empty_log) (replicate n unseen)
all_unseen zero = tt
all_unseen (suc n) = (record { were_shown = tt; grow = tt; kept = tt }, all_unseen n)

pub start_lawful : (limit visitors : ℕ) → IsLawful (start limit visitors)
start_lawful limit visitors = record { legal = (base-empty map.empty, tt); room = omega arith; shown = begins_itself empty_log; at_most_one = omega arith; seen = all_unseen visitors }

all_lawful : Outlasts → (steps : List DeskStep) (d : DeskState) → IsLawful d → IsLawful (after_all steps d)
all_lawful outlasts [] d lawful = lawful
all_lawful outlasts (step ∷ steps) d lawful = all_lawful outlasts steps (happens d step) (step_lawful outlasts d step lawful)

-- after every list of steps
pub runs_lawful : Outlasts → (limit visitors : ℕ) (steps : List DeskStep) → IsLawful (after_all steps (start limit visitors))
runs_lawful outlasts limit visitors steps = all_lawful outlasts steps (start limit visitors) (start_lawful limit visitors)
