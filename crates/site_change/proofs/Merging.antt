-- Steps along the live entries of a site and the files of a tree, both in the order of the paths.
use Rattle.std.proofs.Common.{◌≡◌, ◌≢◌, ℕ, true, false, cond, List, [], ◌∷◌, ◌++◌, map, length, Option, Some, None, refl, sym, ap, subst, ◌∙◌, append-nil, arith}
use Rattle.std.specs.List.{AllByRecursion}
use Rattle.std.specs.List.Sorted.{IsStrictlySortedBy}
use Rattle.std.specs.declared.cmp.Ordering.TheVariants.{Less, Equal, Greater}
use Rattle.std.specs.Ordering.{ordering_reverse}
use Rattle.std.proofs.lemmas.Bool.{false≢true}
use Rattle.std.proofs.lemmas.Map.Keys.{sorted_head, sorted_tail}
use Rattle.host_names.specs.Cells.{cell_cmp}
use Rattle.host_names.specs.CellOrder.{cell_cmp_total, cell_cmp-IsAntisymmetric}
use Rattle.host_names.specs.declared.names.SiteName.{SiteName}
use Rattle.host_names.specs.declared.cells.Cell.{Cell}
use Rattle.host_names.specs.declared.cells.Cell.TheVariants as cell
use Rattle.site_state.specs.Files.{Paths}
use Rattle.site_state.specs.States.{is_live_of}
use Rattle.site_state.specs.SameValues.{same_value-decides}
use Rattle.site_state.specs.Values.{value_eq}
use Rattle.site_state.specs.declared.values.Value.{Value}
use Rattle.site_state.specs.declared.values.Value.TheVariants as value
use Rattle.site_state.specs.declared.changes.Change.{Change}
use Rattle.site_change.specs.Differences.{AreSides, AreLiveChanges, IsStep, in_list, live_cells, change_at}
use Rattle.site_change.proofs.Effects.{bytes_eq-itself}
use Rattle.site_change.proofs.Differences.{AllLater, Sets, Sets-cons, Sets-later, differ_later, with_first, without_first}

later_than : (c d : Cell) (cells : List Cell) → cell_cmp c d ≡ Less → AllByRecursion (λ x. cell_cmp d x ≡ Less) cells → AllByRecursion (λ x. cell_cmp c x ≡ Less) cells
later_than c d [] less h = tt
later_than c d (x ∷ cells) less h = (cell_cmp_total.trans c d x less h.0, later_than c d cells less h.1)

-- a cell before the first of a list in order is before all of it
pub all_later : (c : Cell) (e : Cell × Value) (entries : List (Cell × Value)) → cell_cmp c e.0 ≡ Less → IsStrictlySortedBy cell_cmp (map (λ x. x.0) (e ∷ entries)) → AllLater c (e ∷ entries)
all_later c e entries less sorted = (less, later_than c e.0 _ less (sorted_head cell_cmp e.0 _ sorted))

abbrev Live : Type 0
Live = List (Cell × Value)

abbrev Files : Type 0
Files = Paths (List ℕ)

abbrev cell_at : SiteName → List ℕ × List ℕ → Cell
cell_at site f = cell.Live site f.0

live_at_site : (site : SiteName) (f : List ℕ × List ℕ) → is_live_of site (cell_at site f) ≡ true
live_at_site site f = bytes_eq-itself site.0

some_not_none : {A : Type 0} (x : A) → Some x ≢ None
some_not_none x e = cc e

-- what is there and is no longer in the tree
pub step_removed : (site : SiteName) (e : Cell × Value) (live : Live) (tree : Files) → AreSides site (e ∷ live) tree → AllLater e.0 (live_cells site tree)
    → IsStep site (e ∷ live) tree (Some (record { cell = e.0; before = Some e.1; after = None })) live tree
step_removed site e live tree sides later =
    let sorted = sides.live_sorted in
    let above : AllLater e.0 live = sorted_head cell_cmp e.0 _ sorted in record {
      shorter = omega arith;
      sides = record { live_sorted = sorted_tail cell_cmp e.0 _ sorted; live_only = sides.live_only.1; tree_sorted = sides.tree_sorted; uploads = sides.uploads; live_uploaded = sides.live_uploaded.1; tree_uploaded = sides.tree_uploaded };
      changes = λ rest are. with_first (is_live_of site) (in_list live) (in_list (live_cells site tree)) _ _ e.0 (Some e.1) None sides.live_only.0
          (Sets-cons e live) (Sets-later e.0 _ later) (differ_later e.0 _ _ above later) rest (some_not_none e.1) are;
    }

-- what the tree has and isn't there
pub step_added : (site : SiteName) (live : Live) (f : List ℕ × List ℕ) (tree : Files) → AreSides site live (f ∷ tree) → AllLater (cell_at site f) live
    → IsStep site live (f ∷ tree) (Some (record { cell = cell_at site f; before = None; after = Some (value.Live f.1) })) live tree
step_added site live f tree sides later =
    let sorted = sides.tree_sorted in
    let above : AllLater (cell_at site f) (live_cells site tree) = sorted_head cell_cmp (cell_at site f) _ sorted in record {
      shorter = omega arith;
      sides = record { live_sorted = sides.live_sorted; live_only = sides.live_only; tree_sorted = sorted_tail cell_cmp (cell_at site f) _ sorted; uploads = sides.uploads; live_uploaded = sides.live_uploaded; tree_uploaded = sides.tree_uploaded.1 };
      changes = λ rest are. with_first (is_live_of site) (in_list live) (in_list (live_cells site tree)) _ _ (cell_at site f) None (Some (value.Live f.1)) (live_at_site site f)
          (Sets-later (cell_at site f) _ later) (Sets-cons (cell_at site f, value.Live f.1) _) (differ_later (cell_at site f) _ _ later above) rest (λ e. cc e) are;
    }

module _ (site : SiteName) (e : Cell × Value) (live : Live) (f : List ℕ × List ℕ) (tree : Files)
    (sides : AreSides site (e ∷ live) (f ∷ tree)) (same : e.0 ≡ cell_at site f) where
  live_above : AllLater e.0 live
  live_above = sorted_head cell_cmp e.0 _ sides.live_sorted

  tree_above : AllLater e.0 (live_cells site tree)
  tree_above = let P : Cell → Type 0 = λ c. AllLater c (live_cells site tree) in subst P (sym same) (sorted_head cell_cmp (cell_at site f) _ sides.tree_sorted)

  sets_tree : Sets (in_list (live_cells site tree)) e.0 (Some (value.Live f.1)) (in_list (live_cells site (f ∷ tree)))
  sets_tree =
      let P : Cell → Type 0 = λ c. Sets (in_list (live_cells site tree)) c (Some (value.Live f.1)) (in_list (live_cells site (f ∷ tree))) in
      subst P (sym same) (Sets-cons (cell_at site f, value.Live f.1) (live_cells site tree))

  left : AreSides site live tree
  left = record {
    live_sorted = sorted_tail cell_cmp e.0 _ sides.live_sorted;
    live_only = sides.live_only.1;
    tree_sorted = sorted_tail cell_cmp (cell_at site f) _ sides.tree_sorted;
    uploads = sides.uploads;
    live_uploaded = sides.live_uploaded.1;
    tree_uploaded = sides.tree_uploaded.1;
  }

  -- another file in its place
  pub step_replaced : Some e.1 ≢ Some (value.Live f.1) → IsStep site (e ∷ live) (f ∷ tree) (Some (record { cell = e.0; before = Some e.1; after = Some (value.Live f.1) })) live tree
  step_replaced differs = record {
    shorter = omega arith;
    sides = left;
    changes = λ rest are. with_first (is_live_of site) (in_list live) (in_list (live_cells site tree)) _ _ e.0 (Some e.1) (Some (value.Live f.1)) sides.live_only.0
        (Sets-cons e live) sets_tree (differ_later e.0 _ _ live_above tree_above) rest differs are;
  }

  -- the same file
  pub step_kept : Some e.1 ≡ Some (value.Live f.1) → IsStep site (e ∷ live) (f ∷ tree) None live tree
  step_kept stays = record {
    shorter = omega arith;
    sides = left;
    changes = λ rest are. without_first (is_live_of site) (in_list live) (in_list (live_cells site tree)) _ _ e.0 (Some e.1) (Some (value.Live f.1)) sides.live_only.0
        (Sets-cons e live) sets_tree (differ_later e.0 _ _ live_above tree_above) rest stays are;
  }

-- where both are at their ends nothing changes
pub no_changes : (site : SiteName) → AreLiveChanges site [] [] []
unfolding IsStrictlySortedBy
no_changes site = record { ordered = tt; each = tt; others = λ c passes none. refl }

-- ---- the same for lists that are known to have a first

no_items : {A : Type 0} (xs : List A) → length xs ≡ 0 → xs ≡ []
no_items [] e = refl
no_items (x ∷ xs) e = absurd (omega arith)

abbrev removal : Cell × Value → Change
removal e = record { cell = e.0; before = Some e.1; after = None }

abbrev addition : SiteName → List ℕ × List ℕ → Change
addition site f = record { cell = cell_at site f; before = None; after = Some (value.Live f.1) }

abbrev replacement : Cell × Value → List ℕ → Change
replacement e bytes = record { cell = e.0; before = Some e.1; after = Some (value.Live bytes) }

removed_at : (site : SiteName) (live : Live) (tree : Files) (e : Cell × Value) (left : Live) (change : Change) → AreSides site live tree → live ≡ e ∷ left → change ≡ removal e
    → AllLater e.0 (live_cells site tree) → IsStep site live tree (Some change) left tree
removed_at site live tree e left change sides is made later =
    let P : Live → Type 0 = λ l. AreSides site l tree in
    let Q : Live → Type 0 = λ l. IsStep site l tree (Some change) left tree in
    let R : Change → Type 0 = λ x. IsStep site (e ∷ left) tree (Some x) left tree in
    subst Q (sym is) (subst R (sym made) (step_removed site e left tree (subst P is sides) later))

added_at : (site : SiteName) (live : Live) (tree : Files) (f : List ℕ × List ℕ) (left : Files) (change : Change) → AreSides site live tree → tree ≡ f ∷ left → change ≡ addition site f
    → AllLater (cell_at site f) live → IsStep site live tree (Some change) live left
added_at site live tree f left change sides is made later =
    let P : Files → Type 0 = λ t. AreSides site live t in
    let Q : Files → Type 0 = λ t. IsStep site live t (Some change) live left in
    let R : Change → Type 0 = λ x. IsStep site live (f ∷ left) (Some x) live left in
    subst Q (sym is) (subst R (sym made) (step_added site live f left (subst P is sides) later))

-- the tree is at its end
pub removed_last : (site : SiteName) (live : Live) (tree : Files) (e : Cell × Value) (left : Live) (change : Change) → AreSides site live tree → live ≡ e ∷ left → change ≡ removal e
    → length tree ≡ 0 → IsStep site live tree (Some change) left tree
removed_last site live tree e left change sides is made ends =
    removed_at site live tree e left change sides is made (let P : Files → Type 0 = λ t. AllLater e.0 (live_cells site t) in subst P (sym (no_items tree ends)) tt)

-- what is there is at its end
pub added_last : (site : SiteName) (live : Live) (tree : Files) (f : List ℕ × List ℕ) (left : Files) (change : Change) → AreSides site live tree → tree ≡ f ∷ left → change ≡ addition site f
    → length live ≡ 0 → IsStep site live tree (Some change) live left
added_last site live tree f left change sides is made ends =
    added_at site live tree f left change sides is made (let P : Live → Type 0 = λ l. AllLater (cell_at site f) l in subst P (sym (no_items live ends)) tt)

-- what is there comes first
pub removed_first : (site : SiteName) (live : Live) (tree : Files) (e : Cell × Value) (live_left : Live) (f : List ℕ × List ℕ) (tree_left : Files) (change : Change)
    → AreSides site live tree → live ≡ e ∷ live_left → tree ≡ f ∷ tree_left → change ≡ removal e → cell_cmp e.0 (cell_at site f) ≡ Less
    → IsStep site live tree (Some change) live_left tree
removed_first site live tree e live_left f tree_left change sides live_is tree_is made less =
    let P : Files → Type 0 = λ t. AreSides site live t in
    let Q : Files → Type 0 = λ t. AllLater e.0 (live_cells site t) in
    removed_at site live tree e live_left change sides live_is made
    (subst Q (sym tree_is) (all_later e.0 (cell_at site f, value.Live f.1) (live_cells site tree_left) less (subst P tree_is sides).tree_sorted))

-- what the tree has comes first
pub added_first : (site : SiteName) (live : Live) (tree : Files) (e : Cell × Value) (live_left : Live) (f : List ℕ × List ℕ) (tree_left : Files) (change : Change)
    → AreSides site live tree → live ≡ e ∷ live_left → tree ≡ f ∷ tree_left → change ≡ addition site f → cell_cmp e.0 (cell_at site f) ≡ Greater
    → IsStep site live tree (Some change) live tree_left
added_first site live tree e live_left f tree_left change sides live_is tree_is made greater =
    let P : Live → Type 0 = λ l. AreSides site l tree in
    let Q : Live → Type 0 = λ l. AllLater (cell_at site f) l in
    added_at site live tree f tree_left change sides tree_is made
    (subst Q (sym live_is) (all_later (cell_at site f) e live_left (cell_cmp_total.antisymm (cell_at site f) e.0 ∙ ap ordering_reverse greater) (subst P live_is sides).live_sorted))

-- both are at one path
pub rewritten_first : (site : SiteName) (live : Live) (tree : Files) (e : Cell × Value) (live_left : Live) (f : List ℕ × List ℕ) (tree_left : Files) (change : Option Change)
    → AreSides site live tree → live ≡ e ∷ live_left → tree ≡ f ∷ tree_left → change ≡ change_at e.0 (Some e.1) (Some (value.Live f.1)) → cell_cmp e.0 (cell_at site f) ≡ Equal
    → IsStep site live tree change live_left tree_left
rewritten_first site live tree e live_left f tree_left change sides live_is tree_is made tie =
    let P : Live → Type 0 = λ l. AreSides site l tree in
    let Q : Files → Type 0 = λ t. AreSides site (e ∷ live_left) t in
    let R : Live → Type 0 = λ l. IsStep site l tree change live_left tree_left in
    let S : Files → Type 0 = λ t. IsStep site (e ∷ live_left) t change live_left tree_left in
    let U : Option Change → Type 0 = λ x. IsStep site (e ∷ live_left) (f ∷ tree_left) x live_left tree_left in
    let here = subst Q tree_is (subst P live_is sides) in
    let one = cell_cmp-IsAntisymmetric e.0 (cell_at site f) tie in
    let decides = same_value-decides (Some e.1) (Some (value.Live f.1)) in
    subst R (sym live_is) (subst S (sym tree_is) (subst U (sym made)
    (elim (value_eq e.1 (value.Live f.1)) as (λ t. value_eq e.1 (value.Live f.1) ≡ t → U (cond t None (Some (replacement e f.1)))) [
      | true ↦ λ same. step_kept site e live_left f tree_left here one (decides.0 same)
      | false ↦ λ differs. step_replaced site e live_left f tree_left here one (λ alike. false≢true (sym differs ∙ decides.1 alike))
    ] refl)))

-- once both are gone through, the changes after which the rest would come are all
pub at_ends : (site : SiteName) (live : Live) (tree : Files) (live_left : Live) (tree_left : Files) (changes : List Change)
    → ((rest : List Change) → AreLiveChanges site live_left tree_left rest → AreLiveChanges site live tree (changes ++ rest))
    → live_left ≡ [] → tree_left ≡ [] → AreLiveChanges site live tree changes
at_ends site live tree live_left tree_left changes behind live_ends tree_ends =
    let P : Live → Type 0 = λ l. AreLiveChanges site l tree_left [] in
    let Q : Files → Type 0 = λ t. AreLiveChanges site [] t [] in
    let R : List Change → Type 0 = AreLiveChanges site live tree in
    subst R (append-nil changes) (behind [] (subst P (sym live_ends) (subst Q (sym tree_ends) (no_changes site))))
