-- Changes of some cells and of others make up a whole.
use Rattle.std.proofs.Common.{◌≡◌, Bool, true, false, not, cond, ◌&&◌, ◌||◌, List, [], ◌∷◌, ◌++◌, map, Option, Some, None, option_to_list, refl, sym, ap, ◌∙◌}
use Rattle.std.specs.FinMap as finmap
use Rattle.std.specs.List.{AllByRecursion, list_all}
use Rattle.std.specs.List.Sorted.{IsStrictlySortedBy}
use Rattle.std.specs.declared.cmp.Ordering.TheVariants.{Less}
use Rattle.std.proofs.lemmas.Bool.{false≢true}
use Rattle.host_names.specs.Cells.{cell_cmp}
use Rattle.host_names.specs.declared.cells.Cell.{Cell}
use Rattle.site_state.specs.SameValues.{same_value-decides}
use Rattle.site_state.specs.States.{State}
use Rattle.site_state.specs.Values.{same_value}
use Rattle.site_state.specs.declared.values.Value.{Value}
use Rattle.site_state.specs.Changes.{cells_of}
use Rattle.site_state.specs.declared.changes.Change.{Change}
use Rattle.site_change.specs.Changes.{same_cell}
use Rattle.site_change.specs.Differences.{Reading, IsChangeIn, AreChangesIn, change_at}
use Rattle.site_change.specs.Plans.{IsChange, IsDifference}
use Rattle.site_change.proofs.Differences.{both_parts}
use Rattle.site_change.proofs.Effects.{one_cell, same_cell-itself}

-- ---- other readings that have the same in the cells of the test

module _ (test : Cell → Bool) (f g f' g' : Reading) (same_f : (c : Cell) → test c ≡ true → f c ≡ f' c) (same_g : (c : Cell) → test c ≡ true → g c ≡ g' c) where
  reread_each : (changes : List Change) → AllByRecursion (IsChangeIn test f g) changes → AllByRecursion (IsChangeIn test f' g') changes
  reread_each [] h = tt
  reread_each (d ∷ changes) h =
      let change : IsChangeIn test f' g' d = (h.0.0, h.0.1 ∙ same_f d.cell h.0.0, h.0.2 ∙ same_g d.cell h.0.0, h.0.3) in
      (change, reread_each changes h.1)

  pub reread : (changes : List Change) → AreChangesIn test f g changes → AreChangesIn test f' g' changes
  reread changes are = record {
    ordered = are.ordered;
    each = reread_each changes are.each;
    others = λ c passes none. sym (same_g c passes) ∙ are.others c passes none ∙ same_f c passes;
  }

-- ---- one cell

abbrev pub is_cell : Cell → Cell → Bool
is_cell at c = same_cell c at

module _ (at : Cell) (f g : Reading) where
  in_one : (b a : Option Value) → f at ≡ b → g at ≡ a → (same : Bool) → same_value b a ≡ same
      → AreChangesIn (is_cell at) f g (option_to_list (cond same None (Some (record { cell = at; before = b; after = a }))))
  unfolding IsStrictlySortedBy
  in_one b a is_b is_a true e = record {
    ordered = tt;
    each = tt;
    others = λ c passes none. ap g (one_cell c at passes) ∙ is_a ∙ sym ((same_value-decides b a).0 e) ∙ sym is_b ∙ ap f (sym (one_cell c at passes));
  }
  in_one b a is_b is_a false e = record {
    ordered = (tt, tt);
    each = ((same_cell-itself at, sym is_b, sym is_a, λ alike. false≢true (sym e ∙ (same_value-decides b a).1 alike)), tt);
    others = λ c passes none. absurd (false≢true (sym (ap (λ t. not t && true) passes) ∙ none));
  }

  pub change_in_cell : AreChangesIn (is_cell at) f g (option_to_list (change_at at (f at) (g at)))
  change_in_cell = in_one (f at) (g at) refl refl (same_value (f at) (g at)) refl

-- ---- two parts, the one before the other

module _ (s t : Cell → Bool) (f g : Reading) (parted : (c d : Cell) → s c ≡ true → t d ≡ true → cell_cmp c d ≡ Less) where
  before_second : (c : Cell) → s c ≡ true → (ys : List Change) → AllByRecursion (IsChangeIn t f g) ys → AllByRecursion (λ d. cell_cmp c d ≡ Less) (cells_of ys)
  before_second c passes [] h = tt
  before_second c passes (y ∷ ys) h = (parted c y.cell passes h.0.0, before_second c passes ys h.1)

  before_all : (c : Cell) (xs ys : List Change) → AllByRecursion (λ d. cell_cmp c d ≡ Less) (cells_of xs) → AllByRecursion (λ d. cell_cmp c d ≡ Less) (cells_of ys)
      → AllByRecursion (λ d. cell_cmp c d ≡ Less) (cells_of (xs ++ ys))
  before_all c [] ys h k = k
  before_all c (x ∷ xs) ys h k = (h.0, before_all c xs ys h.1 k)

  in_order : (xs ys : List Change) → AllByRecursion (IsChangeIn s f g) xs → AllByRecursion (IsChangeIn t f g) ys → IsStrictlySortedBy cell_cmp (cells_of xs)
      → IsStrictlySortedBy cell_cmp (cells_of ys) → IsStrictlySortedBy cell_cmp (cells_of (xs ++ ys))
  unfolding IsStrictlySortedBy
  in_order [] ys h k p q = q
  in_order (x ∷ xs) ys h k p q = (before_all x.cell xs ys p.0 (before_second x.cell h.0.0 ys k), in_order xs ys h.1 k p.1 q)

  abbrev either : Cell → Bool
  either c = s c || t c

  or_left : (a b : Bool) → a ≡ true → (a || b) ≡ true
  or_left true b e = refl
  or_left false b e = cc e

  or_right : (a b : Bool) → b ≡ true → (a || b) ≡ true
  or_right true b e = refl
  or_right false b e = e

  second_each : (ys : List Change) → AllByRecursion (IsChangeIn t f g) ys → AllByRecursion (IsChangeIn either f g) ys
  second_each [] k = tt
  second_each (y ∷ ys) k =
      let change : IsChangeIn either f g y = (or_right (s y.cell) (t y.cell) k.0.0, k.0.1, k.0.2, k.0.3) in
      (change, second_each ys k.1)

  joined_each : (xs ys : List Change) → AllByRecursion (IsChangeIn s f g) xs → AllByRecursion (IsChangeIn t f g) ys → AllByRecursion (IsChangeIn either f g) (xs ++ ys)
  joined_each [] ys h k = second_each ys k
  joined_each (x ∷ xs) ys h k =
      let change : IsChangeIn either f g x = (or_left (s x.cell) (t x.cell) h.0.0, h.0.1, h.0.2, h.0.3) in
      (change, joined_each xs ys h.1 k)

  abbrev is_unlisted : Cell → List Change → Bool
  is_unlisted c changes = list_all (λ change. not (same_cell c change.cell)) changes

  unlisted_parts : (c : Cell) (xs ys : List Change) → is_unlisted c (xs ++ ys) ≡ true → (is_unlisted c xs ≡ true) × (is_unlisted c ys ≡ true)
  unlisted_parts c [] ys e = (refl, e)
  unlisted_parts c (x ∷ xs) ys e =
      let parts = both_parts (not (same_cell c x.cell)) (is_unlisted c (xs ++ ys)) e in
      let rest = unlisted_parts c xs ys parts.1 in
      (ap (λ b. b && is_unlisted c xs) parts.0 ∙ rest.0, rest.1)

  pub joined : (xs ys : List Change) → AreChangesIn s f g xs → AreChangesIn t f g ys → AreChangesIn either f g (xs ++ ys)
  joined xs ys are_xs are_ys = record {
    ordered = in_order xs ys are_xs.each are_ys.each are_xs.ordered are_ys.ordered;
    each = joined_each xs ys are_xs.each are_ys.each;
    others = λ c passes none.
        let parts = unlisted_parts c xs ys none in
        elim (s c) as (λ b. s c ≡ b → (b || t c) ≡ true → g c ≡ f c) [
          | true ↦ λ e _. are_xs.others c e parts.0
          | false ↦ λ e in_second. are_ys.others c in_second parts.1
        ] refl passes;
  }

-- ---- the whole

module _ (test : Cell → Bool) (state after : State) (elsewhere : (c : Cell) → test c ≡ false → finmap.get after c ≡ finmap.get state c) where
  whole_each : (changes : List Change) → AllByRecursion (IsChangeIn test (finmap.get state) (finmap.get after)) changes → AllByRecursion (IsChange state after) changes
  whole_each [] h = tt
  whole_each (d ∷ changes) h = ((h.0.1, h.0.2, h.0.3), whole_each changes h.1)

  pub whole : (changes : List Change) → AreChangesIn test (finmap.get state) (finmap.get after) changes → IsDifference state after changes
  whole changes are = record {
    ordered = are.ordered;
    each = whole_each changes are.each;
    others = λ c none.
        elim (test c) as (λ b. test c ≡ b → finmap.get after c ≡ finmap.get state c) [
          | true ↦ λ e. are.others c e none
          | false ↦ λ e. elsewhere c e
        ] refl;
  }
