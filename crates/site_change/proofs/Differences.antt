-- Changes between two readings, cell by cell.
use Rattle.std.proofs.Common.{◌≡◌, ◌≢◌, ℕ, Bool, true, false, not, cond, ◌&&◌, List, [], ◌∷◌, map, Option, Some, None, refl, sym, ap, ◌∙◌}
use Rattle.std.specs.List.{AllByRecursion}
use Rattle.std.specs.List.Sorted.{IsStrictlySortedBy}
use Rattle.std.specs.Ordering.{is_eq, nat_cmp, ordering_reverse, ordering_then}
use Rattle.std.specs.Cmp.Lexicographic.{slice_cmp}
use Rattle.std.specs.Str.{bytes_eq}
use Rattle.std.specs.declared.cmp.Ordering.{Ordering}
use Rattle.std.specs.declared.cmp.Ordering.TheVariants.{Less, Equal, Greater}
use Rattle.std.proofs.lemmas.Cmp.{tied_itself, nat_list_cmp_total}
use Rattle.std.proofs.lemmas.Slice.Eq.{bytes_eq-Decides}
use Rattle.host_names.specs.Cells.{cell_cmp}
use Rattle.host_names.specs.CellOrder.{cell_cmp_total}
use Rattle.host_names.specs.declared.names.SiteName.{SiteName}
use Rattle.host_names.specs.declared.cells.Cell.{Cell}
use Rattle.host_names.specs.declared.cells.Cell.TheVariants as cell
use Rattle.site_state.specs.States.{is_live_of}
use Rattle.site_state.specs.declared.values.Value.{Value}
use Rattle.site_state.specs.declared.changes.Change.{Change}
use Rattle.site_change.specs.Changes.{same_cell}
use Rattle.site_change.specs.Differences.{Reading, IsChangeIn, AreChangesIn, in_list}
use Rattle.site_change.proofs.Effects.{one_cell, same_cell-itself}

-- a later cell is another
pub later_is_other : (c d : Cell) → cell_cmp c d ≡ Less → same_cell d c ≡ false
later_is_other c d less = ap is_eq (cell_cmp_total.antisymm d c ∙ ap ordering_reverse less)

pub both_parts : (a b : Bool) → (a && b) ≡ true → (a ≡ true) × (b ≡ true)
both_parts true b e = (refl, e)
both_parts false b e = cc e

not_true : (b : Bool) → not b ≡ true → b ≡ false
not_true true e = cc e
not_true false e = refl

-- a reading with this in a cell
abbrev pub Sets : Reading → Cell → Option Value → Reading → Type 0
Sets f c v g = (d : Cell) → g d ≡ cond (same_cell d c) v (f d)

-- the readings differ in later cells alone
abbrev pub DifferLater : Cell → Reading → Reading → Type 0
DifferLater c f g = (d : Cell) → f d ≢ g d → cell_cmp c d ≡ Less

module _ (test : Cell → Bool) (f g f' g' : Reading) (c : Cell) (b a : Option Value)
    (first : test c ≡ true) (sets_f : Sets f c b f') (sets_g : Sets g c a g') (later : DifferLater c f g) where
  changed_later : (d : Change) → IsChangeIn test f g d → cell_cmp c d.cell ≡ Less
  changed_later d h = later d.cell (λ e. h.3 (h.1 ∙ e ∙ sym h.2))

  all_later : (rest : List Change) → AllByRecursion (IsChangeIn test f g) rest → AllByRecursion (λ d. cell_cmp c d ≡ Less) (map (λ change. change.cell) rest)
  all_later [] h = tt
  all_later (d ∷ rest) h = (changed_later d h.0, all_later rest h.1)

  elsewhere : (h : Reading) (h' : Reading) (v : Option Value) → Sets h c v h' → (d : Cell) → same_cell d c ≡ false → h' d ≡ h d
  elsewhere h h' v sets d other = sets d ∙ ap (λ t. cond t v (h d)) other

  here : (h : Reading) (h' : Reading) (v : Option Value) → Sets h c v h' → (d : Cell) → same_cell d c ≡ true → h' d ≡ v
  here h h' v sets d same = sets d ∙ ap (λ t. cond t v (h d)) same

  keep_each : (rest : List Change) → AllByRecursion (IsChangeIn test f g) rest → AllByRecursion (IsChangeIn test f' g') rest
  keep_each [] h = tt
  keep_each (d ∷ rest) h =
      let other = later_is_other c d.cell (changed_later d h.0) in
      let change : IsChangeIn test f' g' d = (h.0.0, h.0.1 ∙ sym (elsewhere f f' b sets_f d.cell other), h.0.2 ∙ sym (elsewhere g g' a sets_g d.cell other), h.0.3) in
      (change, keep_each rest h.1)

  abbrev at_first : Change
  at_first = record { cell = c; before = b; after = a }

  -- the first cell differs
  pub with_first : (rest : List Change) → b ≢ a → AreChangesIn test f g rest → AreChangesIn test f' g' (at_first ∷ rest)
  unfolding IsStrictlySortedBy
  with_first rest differs are = record {
    ordered = (all_later rest are.each, are.ordered);
    each = (
      (first, sym (here f f' b sets_f c (same_cell-itself c)), sym (here g g' a sets_g c (same_cell-itself c)), differs),
      keep_each rest are.each,
    );
    others = λ d passes none.
        let parts = both_parts (not (same_cell d c)) _ none in
        let other = not_true _ parts.0 in
        elsewhere g g' a sets_g d other ∙ are.others d passes parts.1 ∙ sym (elsewhere f f' b sets_f d other);
  }

  -- the first cell doesn't
  pub without_first : (rest : List Change) → b ≡ a → AreChangesIn test f g rest → AreChangesIn test f' g' rest
  without_first rest same are = record {
    ordered = are.ordered;
    each = keep_each rest are.each;
    others = λ d passes none.
        elim (same_cell d c) as (λ t. same_cell d c ≡ t → g' d ≡ f' d) [
          | true ↦ λ e. here g g' a sets_g d e ∙ sym same ∙ sym (here f f' b sets_f d e)
          | false ↦ λ e. elsewhere g g' a sets_g d e ∙ are.others d passes none ∙ sym (elsewhere f f' b sets_f d e)
        ] refl;
  }

-- ---- lists of cells

abbrev pub AllLater : Cell → List (Cell × Value) → Type 0
AllLater c entries = AllByRecursion (λ d. cell_cmp c d ≡ Less) (map (λ e. e.0) entries)

-- what is in later cells alone isn't found elsewhere
pub found_later : (c d : Cell) (entries : List (Cell × Value)) → AllLater c entries → (cell_cmp c d ≡ Less → ⊥) → in_list entries d ≡ None
found_later c d [] h not_later = refl
found_later c d (e ∷ entries) h not_later =
    elim (same_cell d e.0) as (λ t. same_cell d e.0 ≡ t → cond t (Some e.1) (in_list entries d) ≡ None) [
      | true ↦ λ same. absurd (not_later (ap (cell_cmp c) (one_cell d e.0 same) ∙ h.0))
      | false ↦ λ other. found_later c d entries h.1 not_later
    ] refl

-- two lists of later cells differ in later cells alone
pub differ_later : (c : Cell) (xs ys : List (Cell × Value)) → AllLater c xs → AllLater c ys → DifferLater c (in_list xs) (in_list ys)
differ_later c xs ys all_xs all_ys d differs =
    elim (cell_cmp c d) as (λ o. cell_cmp c d ≡ o → o ≡ Less) [
      | Less ↦ λ e. refl
      | Equal ↦ λ e. absurd (differs (found_later c d xs all_xs (λ less. cc (sym less ∙ e)) ∙ sym (found_later c d ys all_ys (λ less. cc (sym less ∙ e)))))
      | Greater ↦ λ e. absurd (differs (found_later c d xs all_xs (λ less. cc (sym less ∙ e)) ∙ sym (found_later c d ys all_ys (λ less. cc (sym less ∙ e)))))
    ] refl

-- an entry before later ones
pub Sets-cons : (e : Cell × Value) (entries : List (Cell × Value)) → Sets (in_list entries) e.0 (Some e.1) (in_list (e ∷ entries))
Sets-cons e entries d = refl

-- nothing in a cell before later ones
pub Sets-later : (c : Cell) (entries : List (Cell × Value)) → AllLater c entries → Sets (in_list entries) c None (in_list entries)
Sets-later c entries all d =
    elim (same_cell d c) as (λ t. same_cell d c ≡ t → in_list entries d ≡ cond t None (in_list entries d)) [
      | true ↦ λ same. found_later c d entries all (λ less.
          let tie : same_cell c d ≡ true = ap (λ x. same_cell c x) (one_cell d c same) ∙ same_cell-itself c in
          cc (sym (ap is_eq less) ∙ tie))
      | false ↦ λ other. refl
    ] refl

turned : (r : Ordering) → ordering_then r Equal ≡ r
turned Less = refl
turned Equal = refl
turned Greater = refl

-- cells at paths of a site are ordered by the paths
compare_at : (site own : SiteName) (p q : List ℕ) → bytes_eq site.0 own.0 ≡ true → cell_cmp (cell.Live own p) (cell.Live site q) ≡ slice_cmp nat_cmp p q
compare_at site own p q e =
    let same : own.0 ≡ site.0 = sym ((bytes_eq-Decides site.0 own.0).0 e) in
    rw same (rw (tied_itself nat_list_cmp_total site.0) (turned (slice_cmp nat_cmp p q)))

pub compare_live : (site own : SiteName) (p q : List ℕ) (c : Cell) → c ≡ cell.Live own p → is_live_of site c ≡ true → cell_cmp c (cell.Live site q) ≡ slice_cmp nat_cmp p q
compare_live site own p q c is live = ap (λ x. cell_cmp x (cell.Live site q)) is ∙ compare_at site own p q (ap (is_live_of site) (sym is) ∙ live)
