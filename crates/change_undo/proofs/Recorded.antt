-- The plan that is kept for a number is that of the live change which has the number, in its place.
use Rattle.std.proofs.Common.{◌≡◌, inl, inr, ℕ, zero, suc, ◌+◌, ◌-◌, ◌≤◌, nat_le, cond, Bool, true, false, List, [], ◌∷◌, slice_get, Option, Some, None, unwrap_or, refl, sym, ap, subst, ◌∙◌, arith}
use Rattle.std.specs.List.{Contains}
use Rattle.std.proofs.lemmas.Bool.{cases_lt}
use Rattle.byte_view.specs.Contents.{Contents}
use Rattle.site_state.specs.States.{State}
use Rattle.site_change.specs.declared.commands.Command.{Command}
use Rattle.site_change.specs.declared.plans.Plan.{Plan}
use Rattle.site_change.specs.Changes.{applied}
use Rattle.site_change.specs.declared.entries.Entry.{Entry}
use Rattle.site_change.specs.declared.entries.Entry.TheVariants.{Change, Undo}
use Rattle.change_undo.specs.Histories.{Past, base_state, live_changes, live_from, is_among, recorded, undone}
use Rattle.change_undo.specs.Kept.{plan_at, plan_of}
use Rattle.change_undo.specs.Past.{past_of, plans_of}
use Rattle.change_undo.specs.PlannedEntries.{PlannedEntry, PlannedLog, with_change}
use Rattle.change_undo.specs.Plans.{ArePlans, IsHistoryOver, IsPlanned, IsPlanOf, IsRecorded, state_after}
use Rattle.change_undo.proofs.Live.{live_from-rising}
use Rattle.change_undo.proofs.Marked.{none_up_to, number_at}
use Rattle.change_undo.proofs.Places.{InPlace, first_or_more, not_below, place-contained, place-ran}
use Rattle.change_undo.proofs.Planned.{live-first}

-- the plan of the entry at this place, from 0 on
abbrev at_place : List (Option Plan) → ℕ → Option Plan
at_place plans i = unwrap_or (slice_get plans i) None

-- among these changes, carried out from this state on, one of the number has the plan
record IsPlacedPlan (uploads : Contents) (state : State) (row : List (ℕ × Command)) (k : ℕ) (plan : Plan) : Type 0 where
  command : Command
  over : State
  place : InPlace uploads state row k command over
  planned : IsPlanOf uploads over k command plan

-- and where there is no plan, none has the number
abbrev IsPlaced : Contents → State → List (ℕ × Command) → ℕ → Option Plan → Type 0
IsPlaced uploads state row k None = (command : Command) → Contains row (k, command) → ⊥
IsPlaced uploads state row k (Some plan) = IsPlacedPlan uploads state row k plan

-- a change of a smaller number comes before
after-smaller : (uploads : Contents) (state : State) (n k : ℕ) (command : Command) (row : List (ℕ × Command)) (plan : Option Plan) → (n ≡ k → ⊥)
    → IsPlaced uploads (applied command n state uploads) row k plan → IsPlaced uploads state ((n, command) ∷ row) k plan
after-smaller uploads state n k command row None other none = λ one at. elim (first_or_more (n, command) row (k, one) at) [
  | inl here ↦ other (ap (λ (c : ℕ × Command). c.0) here)
  | inr more ↦ none one more
]
after-smaller uploads state n k command row (Some plan) other it = record { command = it.command; over = it.over; place = inr it.place; planned = it.planned }

placed-plan : (uploads : Contents) (gone : List ℕ) (state : State) (n i k : ℕ) (entries : List Entry) (plans : List (Option Plan)) → k ≡ n + i
    → ArePlans uploads state gone n entries plans → IsPlaced uploads state (live_from gone n entries) k (at_place plans i)
placed-plan uploads gone state n i k [] [] at planned = λ command there. absurd (omega (arith, there.1))
placed-plan uploads gone state n i k [] (plan ∷ plans) at planned = absurd planned
placed-plan uploads gone state n i k (entry ∷ entries) [] at planned = absurd planned
placed-plan uploads gone state n zero k (entry ∷ entries) (plan ∷ plans) at planned =
    let P : List (ℕ × Command) → Type 0 = λ row. IsPlaced uploads state row k plan in
    subst P (sym (live-first gone n entry entries)) (one (is_among gone n) entry plan planned.0)
  where
    number : n ≡ k
    number = omega (arith, at)

    later : List (ℕ × Command)
    later = live_from gone (n + 1) entries

    none : (plan : Option Plan) → plan ≡ None → IsPlaced uploads state later k plan
    none plan is =
        let P : Option Plan → Type 0 = IsPlaced uploads state later k in
        subst P (sym is) (λ command there. omega (arith, number, not_below (n + 1) k command later (live_from-rising gone (n + 1) entries) there))

    one : (is_gone : Bool) (entry : Entry) (plan : Option Plan) → IsPlanned uploads state n is_gone entry plan → IsPlaced uploads state (with_change is_gone n entry later) k plan
    one is_gone (Undo site j) plan is = none plan is
    one true (Change command) plan is = none plan is
    one false (Change command) None is = absurd is
    one false (Change command) (Some plan) is =
        let P : ℕ → Type 0 = λ m. IsPlanOf uploads state m command plan in
        record { command = command; over = state; place = inl (λ i. (number i, command), refl); planned = subst P number is }
placed-plan uploads gone state n (suc i) k (entry ∷ entries) (plan ∷ plans) at planned =
    let P : List (ℕ × Command) → Type 0 = λ row. IsPlaced uploads state row k (at_place plans i) in
    subst P (sym (live-first gone n entry entries))
    (one (λ s rest. placed-plan uploads gone s (n + 1) i k entries plans (omega (arith, at)) rest) (is_among gone n) entry plan planned.0 planned.1)
  where
    later : List (ℕ × Command)
    later = live_from gone (n + 1) entries

    one : ((s : State) → ArePlans uploads s gone (n + 1) entries plans → IsPlaced uploads s later k (at_place plans i))
        → (is_gone : Bool) (entry : Entry) (plan : Option Plan) → IsPlanned uploads state n is_gone entry plan
        → ArePlans uploads (state_after uploads state n is_gone entry) gone (n + 1) entries plans → IsPlaced uploads state (with_change is_gone n entry later) k (at_place plans i)
    one next is_gone (Undo site j) plan is rest = next state rest
    one next true (Change command) plan is rest = next state rest
    one next false (Change command) None is rest = absurd is
    one next false (Change command) (Some plan) is rest =
        after-smaller uploads state n k command later (at_place plans i) (λ same. omega (arith, same, at)) (next (applied command n state uploads) rest)

-- what is in place among all changes is what a history records
recorded-from : (uploads : Contents) (past : Past) (k : ℕ) (plan : Option Plan) → IsHistoryOver uploads past
    → IsPlaced uploads (base_state uploads past.entries) (live_changes past.entries) k plan → IsRecorded uploads past.entries k plan
recorded-from uploads past k None over none = none
recorded-from uploads past k (Some plan) over it =
    let row = live_changes past.entries in
    record {
      command = it.command;
      state = it.over;
      lives = place-contained uploads k it.command (base_state uploads past.entries) it.over row it.place;
      place = place-ran uploads (past.entries.base + 1) k it.command (base_state uploads past.entries) it.over past.state row
          (live_from-rising (undone past.entries.entries) (past.entries.base + 1) past.entries.entries) over.ran it.place;
      planned = it.planned;
    }

pub record-over : (past : Past) (k : ℕ) (uploads : Contents) → IsHistoryOver uploads past → IsRecorded uploads past.entries k (recorded past k)
record-over past k uploads over = elim (cases_lt past.entries.base k) [
  | inl above ↦ one (k - past.entries.base - 1) (omega (arith, above))
  | inr low ↦ subst P (sym (none_up_to (at_place past.plans) past.entries.base k low)) (λ command there. no_command command low there)
]
  where
    P : Option Plan → Type 0
    P = IsRecorded uploads past.entries k

    no_command : (command : Command) → k ≤ past.entries.base → Contains (live_changes past.entries) (k, command) → ⊥
    no_command command low there =
        omega (
          arith,
          low,
          not_below (past.entries.base + 1) k command (live_changes past.entries)
              (live_from-rising (undone past.entries.entries) (past.entries.base + 1) past.entries.entries) there,
        )

    one : (i : ℕ) → k ≡ past.entries.base + suc i → IsRecorded uploads past.entries k (recorded past k)
    one i at =
        subst P (sym (number_at (at_place past.plans) past.entries.base k i at))
        (recorded-from uploads past k (at_place past.plans i) over
        (placed-plan uploads (undone past.entries.entries) (base_state uploads past.entries) (past.entries.base + 1) i k past.entries.entries past.plans (omega (arith, at)) over.planned))

-- ---- the plan of an entry that is kept with its mark

plans-kept : (logged : List PlannedEntry) (i : ℕ) → plan_at logged i ≡ at_place (plans_of logged) i
plans-kept [] i = refl
plans-kept (l ∷ logged) zero = refl
plans-kept (l ∷ logged) (suc i) = plans-kept logged i

pub recorded-kept : (limit : ℕ) (planned : PlannedLog) (state : State) (k : ℕ) → plan_of planned.base planned.logged k ≡ recorded (past_of limit planned state) k
recorded-kept limit planned state k = ap (λ (o : Option Plan). cond (nat_le k planned.base) None o) (plans-kept planned.logged (k - planned.base - 1))
