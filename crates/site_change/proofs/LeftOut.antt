-- A change can be left out where no later one touches what it changed.
use Rattle.std.proofs.Common.{◌≡◌, ℕ, Bool, true, false, not, cond, List, [], ◌∷◌, Option, Some, None, is_none, refl, sym, ap, ◌∙◌}
use Rattle.std.specs.FinMap as map
use Rattle.byte_view.specs.Contents.{Contents}
use Rattle.host_names.specs.declared.cells.Cell.{Cell}
use Rattle.site_state.specs.States.{State}
use Rattle.site_change.specs.declared.commands.Command.{Command}
use Rattle.site_change.specs.declared.refusals.ChangeRefusal.{ChangeRefusal}
use Rattle.site_change.specs.Changes.{refusal, applied, touches, changes, run_from, AvoidAll}
use Rattle.site_change.specs.Laws.{AgreeOn, LeavesOut}
use Rattle.site_change.proofs.Locality.{is_local, same_value-same}

-- this, unless there is a reason to refuse
abbrev pub if_accepted : Option ChangeRefusal → Option State → Option State
if_accepted reason next = cond (is_none reason) next None

-- a run that goes on was accepted
pub accepted : (reason : Option ChangeRefusal) (next : Option State) (after : State) → if_accepted reason next ≡ Some after → (reason ≡ None) × (next ≡ Some after)
accepted None next after e = (refl, e)
accepted (Some reason) next after e = cc e

-- without has what state has where the test passes, and elsewhere what with_it has
abbrev pub Differs : (Cell → Bool) → State → State → State → Type 0
Differs test state with_it without = (c : Cell) → map.get without c ≡ cond (test c) (map.get state c) (map.get with_it c)

-- one later command keeps that
pub step_agrees : (test : Cell → Bool) (state a b : State) (command : Command) (n : ℕ) → Differs test state a b
    → ((at : Cell) → test at ≡ true → touches command n a at ≡ false) → AgreeOn (touches command n a) a b
step_agrees test state a b command n differs avoids c touched =
    differs c ∙ (elim (test c) as (λ t. test c ≡ t → cond t (map.get state c) (map.get a c) ≡ map.get a c) [
      | true ↦ λ e. cc (sym touched ∙ avoids c e)
      | false ↦ λ e. refl
    ] refl)

pub step_differs : (test : Cell → Bool) (state a b : State) (command : Command) (n : ℕ) (uploads : Contents) → Differs test state a b
    → ((at : Cell) → test at ≡ true → touches command n a at ≡ false)
    → Differs test state (applied command n a uploads) (applied command n b uploads)
step_differs test state a b command n uploads differs avoids c =
    let here = is_local command n a uploads in
    let there = is_local command n b uploads in
    let same = here.reads b (step_agrees test state a b command n differs avoids) in
    elim (test c) as (λ t. test c ≡ t → map.get (applied command n b uploads) c ≡ cond t (map.get state c) (map.get (applied command n a uploads) c)) [
      | true ↦ λ e. there.writes c (same.touched c ∙ avoids c e) ∙ differs c ∙ ap (λ t. cond t (map.get state c) (map.get a c)) e
      | false ↦ λ e.
          elim (touches command n a c) as (λ t. touches command n a c ≡ t → map.get (applied command n b uploads) c ≡ map.get (applied command n a uploads) c) [
            | true ↦ λ touched. same.values c touched
            | false ↦ λ untouched.
                there.writes c (same.touched c ∙ untouched) ∙ differs c ∙ ap (λ t. cond t (map.get state c) (map.get a c)) e ∙ sym (here.writes c untouched)
          ] refl
    ] refl

pub later_stays : (uploads : Contents) (test : Cell → Bool) (state a b : State) (later : List (ℕ × Command)) (with_it : State)
    → Differs test state a b → run_from uploads a later ≡ Some with_it → AvoidAll uploads a later test
    → (without : State) × (run_from uploads b later ≡ Some without) × Differs test state with_it without
later_stays uploads test state a b [] with_it differs ran avoid =
    let same : a ≡ with_it = cc ran in
    (b, refl, λ c. differs c ∙ ap (λ s. cond (test c) (map.get state c) (map.get s c)) same)
later_stays uploads test state a b (c ∷ later) with_it differs ran avoid =
    let parts = accepted (refusal c.1 c.0 a uploads) _ with_it ran in
    let same = (is_local c.1 c.0 a uploads).reads b (step_agrees test state a b c.1 c.0 differs avoid.0) in
    let next = later_stays uploads test state (applied c.1 c.0 a uploads) (applied c.1 c.0 b uploads) later with_it
    (step_differs test state a b c.1 c.0 uploads differs avoid.0) parts.1 avoid.1 in
    (next.0, ap (λ r. if_accepted r (run_from uploads (applied c.1 c.0 b uploads) later)) (same.answer ∙ parts.0) ∙ next.1, next.2)

not_false : (b : Bool) → not b ≡ false → b ≡ true
not_false true e = refl
not_false false e = cc e

pub can_be_left_out : (uploads : Contents) (state : State) (change : ℕ × Command) (later : List (ℕ × Command)) → LeavesOut uploads state change later
can_be_left_out uploads state change later with_it ran avoid =
    let after = applied change.1 change.0 state uploads in
    let test = changes change.1 change.0 state uploads in
    let parts = accepted (refusal change.1 change.0 state uploads) _ with_it ran in
    let differs : Differs test state after state = λ c.
    elim (test c) as (λ t. test c ≡ t → map.get state c ≡ cond t (map.get state c) (map.get after c)) [
      | true ↦ λ e. refl
      | false ↦ λ e. same_value-same _ _ (not_false _ e)
    ] refl in
    later_stays uploads test state after state later with_it differs parts.1 avoid
