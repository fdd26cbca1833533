-- Among the same uploads, equal digests mean equal files.
use Rattle.std.proofs.Common.{◌≡◌, ℕ, true, false, cond, List, [], ◌∷◌, map, filter, Bool, Option, Some, None, refl, sym, ap, subst, ◌∙◌}
use Rattle.std.specs.Cmp.{both_ways, first_so, second_so}
use Rattle.std.specs.Cmp.Lexicographic.{bytes_decides}
use Rattle.std.specs.FinMap as finmap
use Rattle.std.specs.List.{AllByRecursion}
use Rattle.std.specs.List.Sorted.{IsStrictlySortedBy}
use Rattle.std.proofs.lemmas.Map.Keys.{sorted_head, sorted_tail}
use Rattle.host_names.specs.Cells.{cell_cmp}
use Rattle.persistent_maps.proofs.Entries.{sorted_from_test}
use Rattle.host_names.specs.Digests.{digest_of}
use Rattle.byte_view.specs.Contents.{Contents}
use Rattle.host_names.specs.declared.cells.Cell.{Cell}
use Rattle.host_names.specs.declared.names.SiteName.{SiteName}
use Rattle.site_state.specs.Files.{Paths}
use Rattle.site_state.specs.SameValues.{digest_eq-decides, same_value-decides, are_alike-itself}
use Rattle.site_state.specs.States.{State, as_file, is_live_of, live_entries}
use Rattle.site_state.specs.Values.{same_value, are_alike, one_digest, paths_eq, value_eq, value_alike}
use Rattle.site_state.specs.declared.values.Draft.{Draft}
use Rattle.site_state.specs.declared.values.Value.{Value}
use Rattle.site_state.specs.declared.values.Value.TheVariants as value
use Rattle.site_state.specs.declared.changes.Change.{Change}
use Rattle.site_change.specs.Changes.{same_cell}
use Rattle.site_change.specs.Differences.{AreSides, Comparable, change_at, in_list}
use Rattle.site_change.specs.Uploaded.{IsUploaded, IsUploadedTree, HasUploaded, HoldsUploaded, AreUploaded}
use Rattle.site_change.proofs.Differences.{AllLater, Sets-later}
use Rattle.site_change.proofs.Effects.{same_cell-itself}
use Rattle.site_change.proofs.Uploading.{one_file}

-- ---- what can be compared

module _ (uploads : Contents) where
  same_file : (a b : List ℕ) → IsUploaded uploads a → IsUploaded uploads b → one_digest a b ≡ true → a ≡ b
  same_file a b at_a at_b e = one_file uploads a b at_a at_b ((digest_eq-decides (digest_of a) (digest_of b)).0 e)

  same_tree : (a b : Paths (List ℕ)) → IsUploadedTree uploads a → IsUploadedTree uploads b → paths_eq one_digest a b ≡ true → a ≡ b
  same_tree [] [] of_a of_b e = refl
  same_tree [] (g ∷ b) of_a of_b e = cc e
  same_tree (f ∷ a) [] of_a of_b e = cc e
  same_tree (f ∷ a) (g ∷ b) of_a of_b e =
      let first = first_so _ _ e in
      let path = (bytes_decides f.0 g.0).0 (first_so _ _ first) in
      let file = same_file f.1 g.1 of_a.0 of_b.0 (second_so _ _ first) in
      let rest = same_tree a b of_a.1 of_b.1 (second_so _ _ e) in
      λ i. (path i, file i) ∷ rest i

  -- values whose files were uploaded
  pub comparable : (v w : Option Value) → HoldsUploaded uploads v → HoldsUploaded uploads w → Comparable v w
  comparable (Some (value.Live a)) (Some (value.Live b)) of_v of_w = λ e. ap (λ f. Some (value.Live f)) (same_file a b of_v of_w e)
  comparable (Some (value.Kept a)) (Some (value.Kept b)) of_v of_w = λ e. ap (λ t. Some (value.Kept t)) (same_tree a b of_v of_w e)
  comparable None (Some (value.Live b)) of_v of_w = λ e. cc e
  comparable None (Some (value.Kept b)) of_v of_w = λ e. cc e
  comparable (Some (value.Kept a)) (Some (value.Live b)) of_v of_w = λ e. cc e
  comparable (Some (value.Alias a)) (Some (value.Live b)) of_v of_w = λ e. cc e
  comparable (Some (value.Draft a)) (Some (value.Live b)) of_v of_w = λ e. cc e
  comparable (Some (value.Live a)) (Some (value.Kept b)) of_v of_w = λ e. cc e
  comparable (Some (value.Alias a)) (Some (value.Kept b)) of_v of_w = λ e. cc e
  comparable (Some (value.Draft a)) (Some (value.Kept b)) of_v of_w = λ e. cc e
  comparable v (Some (value.Alias n)) of_v of_w = tt
  comparable v (Some (value.Draft d)) of_v of_w = tt
  comparable v None of_v of_w = tt

-- where no file is served, one can come
pub free_for : (v : Option Value) (file : List ℕ) → as_file v ≡ None → Comparable v (Some (value.Live file))
free_for (Some (value.Live a)) file e = cc e
free_for (Some (value.Kept a)) file e = λ alike. cc alike
free_for (Some (value.Alias a)) file e = λ alike. cc alike
free_for (Some (value.Draft a)) file e = λ alike. cc alike
free_for None file e = λ alike. cc alike

-- ---- what can be compared is told apart by digests

told : (v w : Option Value) → (are_alike v w ≡ true → v ≡ w) → are_alike v w ≡ same_value v w
told v w same = both_ways (are_alike v w) (same_value v w) (λ e. (same_value-decides v w).1 (same e))
    (λ e. subst (λ x. are_alike v x ≡ true) ((same_value-decides v w).0 e) (are_alike-itself v))

alias_told : (v : Value) (n : ℕ) → value_alike v (value.Alias n) ≡ value_eq v (value.Alias n)
alias_told (value.Live a) n = refl
alias_told (value.Kept a) n = refl
alias_told (value.Alias m) n = refl
alias_told (value.Draft a) n = refl

draft_told : (v : Value) (d : Draft) → value_alike v (value.Draft d) ≡ value_eq v (value.Draft d)
draft_told (value.Live a) d = refl
draft_told (value.Kept a) d = refl
draft_told (value.Alias m) d = refl
draft_told (value.Draft a) d = refl

pub alike_same : (v w : Option Value) → Comparable v w → are_alike v w ≡ same_value v w
alike_same v (Some (value.Live file)) same = told v (Some (value.Live file)) same
alike_same v (Some (value.Kept tree)) same = told v (Some (value.Kept tree)) same
alike_same None (Some (value.Alias n)) same = refl
alike_same (Some v) (Some (value.Alias n)) same = alias_told v n
alike_same None (Some (value.Draft d)) same = refl
alike_same (Some v) (Some (value.Draft d)) same = draft_told v d
alike_same None None same = refl
alike_same (Some v) None same = refl

-- what changes in a cell, as its code tells it
pub changed_at : (c : Cell) (v w : Option Value) (change : Change) → Comparable v w → are_alike v w ≡ false → change ≡ record { cell = c; before = v; after = w } → Some change ≡ change_at c v w
changed_at c v w change same e is = ap Some is ∙ sym (ap (λ t. cond t None (Some (record { cell = c; before = v; after = w }))) (sym (alike_same v w same) ∙ e))

pub unchanged_at : (c : Cell) (v w : Option Value) → Comparable v w → are_alike v w ≡ true → None ≡ change_at c v w
unchanged_at c v w same e = sym (ap (λ t. cond t None (Some (record { cell = c; before = v; after = w }))) (sym (alike_same v w same) ∙ e))

-- ---- the files of a site

without_own : (uploads : Contents) (t : Bool) (v w : Option Value) → HoldsUploaded uploads (cond t v w) → HoldsUploaded uploads (cond t None w)
without_own uploads true v w h = tt
without_own uploads false v w h = h

-- what is in no cell but uploaded files is in no entry but these
in_entries : (uploads : Contents) (entries : List (Cell × Value)) → IsStrictlySortedBy cell_cmp (map (λ e. e.0) entries) → ((c : Cell) → HoldsUploaded uploads (in_list entries c))
    → AllByRecursion (λ e. HasUploaded uploads e.1) entries
in_entries uploads [] sorted all = tt
in_entries uploads (e ∷ entries) sorted all =
    let own : in_list (e ∷ entries) e.0 ≡ Some e.1 = ap (λ t. cond t (Some e.1) (in_list entries e.0)) (same_cell-itself e.0) in
    let later : AllLater e.0 entries = sorted_head cell_cmp e.0 _ sorted in
    let rest : (c : Cell) → HoldsUploaded uploads (in_list entries c) = λ c.
    subst (HoldsUploaded uploads) (sym (Sets-later e.0 entries later c)) (without_own uploads (same_cell c e.0) (Some e.1) (in_list entries c) (all c)) in
    (subst (HoldsUploaded uploads) own (all e.0), in_entries uploads entries (sorted_tail cell_cmp e.0 _ sorted) rest)

passing : {X : Type 0} (P : X → Type 0) (test : X → Bool) (xs : List X) → AllByRecursion P xs → AllByRecursion P (filter test xs)
passing P test [] h = tt
passing P test (x ∷ xs) h = elim (test x) as (λ t. AllByRecursion P (cond t (x ∷ filter test xs) (filter test xs))) [
  | true ↦ (h.0, passing P test xs h.1)
  | false ↦ passing P test xs h.1
]

pub filtered_uploaded : (uploads : Contents) (state : State) (test : Cell → Bool) → AreUploaded uploads state → AllByRecursion (λ e. HasUploaded uploads e.1) (filter (λ e. test e.0) (finmap.entries state))
filtered_uploaded uploads state test all =
    let entries = finmap.entries state in
    let found : (c : Cell) → HoldsUploaded uploads (in_list entries c) = λ c. subst (HoldsUploaded uploads) (finmap.get-entries state c) (all c) in
    passing (λ e. HasUploaded uploads e.1) (λ e. test e.0) entries (in_entries uploads entries (sorted_from_test cell_cmp entries (finmap.entries_sorted state)) found)

pub live_uploaded : (uploads : Contents) (state : State) (site : SiteName) → AreUploaded uploads state → AllByRecursion (λ e. HasUploaded uploads e.1) (live_entries state site)
live_uploaded uploads state site all = filtered_uploaded uploads state (is_live_of site) all

-- those at the heads of both lists can be compared
pub heads_comparable : (site : SiteName) (live : List (Cell × Value)) (tree : Paths (List ℕ)) (e : Cell × Value) (live_left : List (Cell × Value)) (f : List ℕ × List ℕ)
    (tree_left : Paths (List ℕ)) → AreSides site live tree → live ≡ e ∷ live_left → tree ≡ f ∷ tree_left → Comparable (Some e.1) (Some (value.Live f.1))
heads_comparable site live tree e live_left f tree_left sides live_is tree_is =
    let P : List (Cell × Value) → Type 0 = AllByRecursion (λ x. HasUploaded sides.uploads x.1) in
    let Q : Paths (List ℕ) → Type 0 = IsUploadedTree sides.uploads in
    comparable sides.uploads (Some e.1) (Some (value.Live f.1)) (subst P live_is sides.live_uploaded).0 (subst Q tree_is sides.tree_uploaded).0
