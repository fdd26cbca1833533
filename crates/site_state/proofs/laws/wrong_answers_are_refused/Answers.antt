use Rattle.std.proofs.Common.{◌≡◌, Bool, true, false, cond, Option, None, Some, sym, ap, ◌∙◌, refl, arith}
use Rattle.std.specs.FinMap as map
use Rattle.std.specs.Option.{is_some}
use Rattle.std.specs.Ordering.{eq_by_cmp, is_eq}
use Rattle.std.specs.List.Sorted.{IsStrictlySortedBy}
use Rattle.std.proofs.lemmas.Cmp.{tied_itself}
use Rattle.host_names.specs.Cells.{cell_cmp}
use Rattle.host_names.specs.CellOrder.{cell_cmp_total}
use Rattle.host_names.specs.declared.cells.Cell.{Cell}
use Rattle.host_names.specs.declared.cells.Cell.TheVariants as cell
use Rattle.site_state.specs.States.{as_number, as_tree, may_stand}
use Rattle.site_state.specs.declared.changes.Change.{Change}
use Rattle.site_state.specs.declared.values.Value.{Value}
use Rattle.site_state.specs.declared.values.Value.TheVariants as value
use Rattle.site_state.proofs.Items.{get-with_cell}
use Rattle.site_state.proofs.laws.wrong_answers_are_refused.Goals as goal

-- the one cell of a state has what was written there
there : (c : Cell) (v : Value) → map.get {R = cell_cmp} (map.insert map.empty c v) c ≡ Some v
there c v = get-with_cell map.empty c (Some v) c ∙ ap (λ r. cond (is_eq r) (Some v) (map.get {R = cell_cmp} map.empty c)) (tied_itself cell_cmp_total c)

pub returns-clause-least_alias : goal.returns-clause-least_alias
returns-clause-least_alias c site m name least =
    absurd (cc (sym (ap as_number (map.get-empty cell_cmp (cell.Alias site name))) ∙ least.0))

pub returns-clause-by_path : goal.returns-clause-by_path
unfolding IsStrictlySortedBy
returns-clause-by_path c rising = absurd (cc rising.0.0)

pub returns-clause-missing : goal.returns-clause-missing
returns-clause-missing c contents digest missing =
    let listed = (missing.exactly digest).0 (0, omega arith, refl) in
    omega (arith, listed.0.1)

pub returns-clause-of_kind : goal.returns-clause-of_kind
returns-clause-of_kind c site n all =
    absurd (cc (sym (ap (may_stand (cell.Kept site n)) (there (cell.Kept site n) (value.Alias 0))) ∙ all (cell.Kept site n)))

pub returns-clause-after : goal.returns-clause-after
returns-clause-after c site all =
    let other : Change = record { cell = cell.Kept site 1; before = None; after = None } in
    absurd (cc (all 0 other (omega arith)))

pub returns-clause-before : goal.returns-clause-before
returns-clause-before c site all =
    let other : Change = record { cell = cell.Kept site 1; before = None; after = None } in
    absurd (cc (all 0 other (omega arith)))

pub returns-clause-named : goal.returns-clause-named
returns-clause-named c site name m named =
    let alias = cell.Alias site name in
    let at = cell.Kept site m in
    let is_kept : Option Value → Bool = λ v. is_some (as_tree v) in
    let kept = named site name m (ap as_number (there alias (value.Alias m))) in
    let none : is_kept (map.get {R = cell_cmp} (map.insert map.empty alias (value.Alias m)) at) ≡ false =
    ap is_kept (get-with_cell map.empty alias (Some (value.Alias m)) at)
    ∙ elim (eq_by_cmp cell_cmp at alias) as (λ b. is_kept (cond b (Some (value.Alias m)) (map.get {R = cell_cmp} map.empty at)) ≡ false) [
      | true ↦ refl
      | false ↦ ap is_kept (map.get-empty cell_cmp at)
    ] in
    absurd (cc (sym none ∙ kept))
