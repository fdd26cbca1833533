-- Which writes leave each alias with a kept deploy.
use Rattle.std.proofs.Common.{◌≡◌, ℕ, List, [], ◌∷◌, true, false, cond, Option, Some, None, refl, sym, ap, subst, ◌∙◌}
use Rattle.std.specs.FinMap as map
use Rattle.std.specs.Option.{is_some}
use Rattle.std.specs.Ordering.{eq_by_cmp, is_eq}
use Rattle.std.proofs.lemmas.Bool.{false≢true}
use Rattle.std.proofs.lemmas.Cmp.{tied_itself}
use Rattle.host_names.specs.Cells.{cell_cmp}
use Rattle.host_names.specs.CellOrder.{cell_cmp_total, cell_cmp-IsAntisymmetric}
use Rattle.host_names.specs.declared.cells.Cell.{Cell}
use Rattle.host_names.specs.declared.cells.Cell.TheVariants as cell
use Rattle.host_names.specs.declared.names.AliasName.{AliasName}
use Rattle.host_names.specs.declared.names.SiteName.{SiteName}
use Rattle.site_state.specs.Aliases.{alias_for, IsLeastAlias}
use Rattle.site_state.specs.Named.{AliasesNamed}
use Rattle.site_state.specs.States.{State, with_cell, with_cells, alias_at, kept_at, as_number, as_tree}
use Rattle.site_state.specs.declared.values.Value.{Value}
use Rattle.site_state.specs.declared.values.Value.TheVariants as value
use Rattle.persistent_maps.proofs.Edits.{equal}
use Rattle.site_state.proofs.Items.{get-with_cell}
use Rattle.site_state.proofs.LeastAlias.{least_alias}

-- ---- what is in a cell after a write

same : (a b : Cell) → eq_by_cmp cell_cmp a b ≡ true → a ≡ b
same a b e = cell_cmp-IsAntisymmetric a b (equal (cell_cmp a b) e)

in_cell : (state : State) (at : Cell) (v : Option Value) → map.get (with_cell state at v) at ≡ v
in_cell state at v = get-with_cell state at v at ∙ ap (λ r. cond (is_eq r) v (map.get state at)) (tied_itself cell_cmp_total at)

in_other_cell : (state : State) (at : Cell) (v : Option Value) (q : Cell) → (q ≡ at → ⊥) → map.get (with_cell state at v) q ≡ map.get state q
in_other_cell state at v q other =
    get-with_cell state at v q
    ∙ elim (eq_by_cmp cell_cmp q at) as (λ b. eq_by_cmp cell_cmp q at ≡ b → cond b v (map.get state q) ≡ map.get state q) [
      | true ↦ λ e. absurd (other (same q at e))
      | false ↦ λ e. refl
    ] refl

-- where nothing is, no alias is
pub named_empty : AliasesNamed map.empty
named_empty site name m stands = cc (sym (ap as_number (map.get-empty cell_cmp (cell.Alias site name))) ∙ stands)

-- ---- writes after which each alias names a kept deploy

module _ (state : State) (named : AliasesNamed state) where
  -- what an alias that is written names is kept, and a deploy that an alias names is not removed
  named_after : (at : Cell) (v : Option Value)
      → ((site : SiteName) (name : AliasName) (m : ℕ) → cell.Alias site name ≡ at → as_number v ≡ Some m → is_some (kept_at state site m) ≡ true)
      → ((site : SiteName) (name : AliasName) (m : ℕ) → cell.Kept site m ≡ at → alias_at state site name ≡ Some m → is_some (as_tree v) ≡ true)
      → AliasesNamed (with_cell state at v)
  named_after at v to_kept stays site name m stands =
      let a = cell.Alias site name in
      let k = cell.Kept site m in
      elim (eq_by_cmp cell_cmp a at) as (λ b. eq_by_cmp cell_cmp a at ≡ b → as_number (cond b v (map.get state a)) ≡ Some m → is_some (kept_at (with_cell state at v) site m) ≡ true) [
        | true ↦ λ e h. ap (λ o. is_some (as_tree o)) (in_other_cell state at v k (λ is. cc (is ∙ sym (same a at e)))) ∙ to_kept site name m (same a at e) h
        | false ↦ λ e h.
            ap (λ o. is_some (as_tree o)) (get-with_cell state at v k)
            ∙ elim (eq_by_cmp cell_cmp k at) as (λ b. eq_by_cmp cell_cmp k at ≡ b → is_some (as_tree (cond b v (map.get state k))) ≡ true) [
              | true ↦ λ is. stays site name m (same k at is) h
              | false ↦ λ is. named site name m h
            ] refl
      ] refl (sym (ap as_number (get-with_cell state at v a)) ∙ stands)

  pub named_live : (site : SiteName) (path : List ℕ) (v : Option Value) → AliasesNamed (with_cell state (cell.Live site path) v)
  named_live site path v = named_after (cell.Live site path) v (λ s name m is. cc is) (λ s name m is. cc is)

  pub named_draft : (site : SiteName) (n : ℕ) (v : Option Value) → AliasesNamed (with_cell state (cell.Draft site n) v)
  named_draft site n v = named_after (cell.Draft site n) v (λ s name m is. cc is) (λ s name m is. cc is)

  pub named_without_alias : (site : SiteName) (name : AliasName) → AliasesNamed (with_cell state (cell.Alias site name) None)
  named_without_alias site name = named_after (cell.Alias site name) None (λ s other m is e. cc e) (λ s other m is. cc is)

  pub named_with_alias : (site : SiteName) (name : AliasName) (m : ℕ) → is_some (kept_at state site m) ≡ true → AliasesNamed (with_cell state (cell.Alias site name) (Some (value.Alias m)))
  named_with_alias site name m kept = named_after (cell.Alias site name) (Some (value.Alias m)) (λ s other n is e.
      let one : s ≡ site = cc is in
      let number : m ≡ n = cc e in
      rw (one, sym number) kept) (λ s other n is. cc is)

  pub named_with_kept : (site : SiteName) (m : ℕ) (v : Option Value) → is_some (as_tree v) ≡ true → AliasesNamed (with_cell state (cell.Kept site m) v)
  named_with_kept site m v is_tree = named_after (cell.Kept site m) v (λ s name n is. cc is) (λ s name n is e. is_tree)

  pub named_without_kept : (site : SiteName) (m : ℕ) → alias_for state site m ≡ None → AliasesNamed (with_cell state (cell.Kept site m) None)
  named_without_kept site m none = named_after (cell.Kept site m) None (λ s name n is. cc is) (λ s name n is e.
      let least : IsLeastAlias state site m None = subst (IsLeastAlias state site m) none (least_alias state site m) in
      let one : s ≡ site = cc is in
      let number : n ≡ m = cc is in
      absurd (least name (rw (sym one, sym number) e)))

-- two files at once
pub named_two_live : (state : State) (cells : List (Cell × Option Value)) (s t : SiteName) (p q : List ℕ) (v w : Option Value) → AliasesNamed state
    → cells ≡ (cell.Live s p, v) ∷ (cell.Live t q, w) ∷ [] → AliasesNamed (with_cells state cells)
named_two_live state cells s t p q v w named are =
    let both : AliasesNamed (with_cell (with_cell state (cell.Live s p) v) (cell.Live t q) w) = named_live (with_cell state (cell.Live s p) v) (named_live state named s p v) t q w in
    subst (λ l. AliasesNamed (with_cells state l)) (sym are) both

-- ---- what an alias names, and a deploy that is removed, where each alias names a kept deploy afterwards

module _ (state : State) where
  pub alias_to_kept : (site : SiteName) (name : AliasName) (m : ℕ) → AliasesNamed (with_cell state (cell.Alias site name) (Some (value.Alias m))) → is_some (kept_at state site m) ≡ true
  alias_to_kept site name m named =
      let at = cell.Alias site name in
      let v : Option Value = Some (value.Alias m) in
      ap (λ o. is_some (as_tree o)) (sym (in_other_cell state at v (cell.Kept site m) (λ is. cc is))) ∙ named site name m (ap as_number (in_cell state at v))

  pub no_alias_for : (site : SiteName) (m : ℕ) → AliasesNamed (with_cell state (cell.Kept site m) None) → alias_for state site m ≡ None
  no_alias_for site m named = elim (alias_for state site m) as (λ o. alias_for state site m ≡ o → o ≡ None) [
    | None ↦ λ _. refl
    | Some name ↦ λ e.
        let at = cell.Kept site m in
        let least : IsLeastAlias state site m (Some name) = subst (IsLeastAlias state site m) e (least_alias state site m) in
        let gone : is_some (kept_at (with_cell state at None) site m) ≡ false = ap (λ o. is_some (as_tree o)) (in_cell state at None) in
        absurd (false≢true (sym gone ∙ named site name m (ap as_number (in_other_cell state at None (cell.Alias site name) (λ is. cc is)) ∙ least.0)))
  ] refl

-- the same of a write that is told by its parts
pub named_as_told : (state : State) (at told : Cell) (v w : Option Value) → at ≡ told → v ≡ w → AliasesNamed (with_cell state told w) → AliasesNamed (with_cell state at v)
named_as_told state at told v w is is_v = subst AliasesNamed (λ i. with_cell state (sym is i) (sym is_v i))

pub told_as_named : (state : State) (at told : Cell) (v w : Option Value) → at ≡ told → v ≡ w → AliasesNamed (with_cell state at v) → AliasesNamed (with_cell state told w)
told_as_named state at told v w is is_v = subst AliasesNamed (λ i. with_cell state (is i) (is_v i))
