-- What a full publish, and writes of one cell or two, change, put together from their parts.
use Rattle.std.proofs.Common.{◌≡◌, ℕ, Bool, true, false, cond, ◌||◌, List, [], ◌∷◌, ◌++◌, map, filter, Option, Some, None, option_map, option_to_list, ◌⊎◌, inl, inr, refl, sym, ap, subst, ◌∙◌}
use Rattle.std.specs.FinMap as finmap
use Rattle.std.specs.FinMap.Entries.{find-where_key, is_sorted-where_key}
use Rattle.std.specs.List.{AllByRecursion}
use Rattle.std.specs.List.Sorted.{IsStrictlySortedBy}
use Rattle.std.specs.Cmp.Lexicographic.{slice_cmp}
use Rattle.std.specs.Ordering.{is_eq, nat_cmp, ordering_then}
use Rattle.std.specs.declared.cmp.Ordering.TheVariants.{Less, Equal}
use Rattle.std.proofs.lemmas.Cmp.{tied_itself, nat_list_cmp_total}
use Rattle.host_names.specs.Cells.{cell_cmp, text_of}
use Rattle.host_names.specs.CellOrder.{cell_cmp_total, cell_cmp-IsAntisymmetric}
use Rattle.host_names.specs.declared.names.SiteName.{SiteName}
use Rattle.host_names.specs.declared.cells.Cell.{Cell}
use Rattle.host_names.specs.declared.cells.Cell.TheVariants as cell
use Rattle.site_state.specs.Files.{Paths, IsByPath, at_path}
use Rattle.site_state.specs.States.{State, with_cell, is_live_of, live_entries}
use Rattle.site_state.specs.declared.values.Value.{Value}
use Rattle.site_state.specs.declared.values.Value.TheVariants as value
use Rattle.persistent_maps.proofs.Entries.{sorted_from_test}
use Rattle.site_state.specs.declared.changes.Change.{Change}
use Rattle.site_change.specs.Changes.{same_cell, with_served, with_published}
use Rattle.site_change.specs.Differences.{Reading, AreChangesIn, AreLiveChanges, AreSides, AreTogether, in_list, live_cells, change_at}
use Rattle.site_change.specs.Plans.{IsDifference}
use Rattle.site_change.proofs.Comparing.{live_uploaded}
use Rattle.site_change.proofs.Composing.{reread, change_in_cell, joined, whole, is_cell}
use Rattle.site_change.proofs.Effects.{one_cell, same_cell-itself, get-with_cell, get-with_two, live_of, same_paths, get-served, get-published}

-- ---- the two lists of a site's files

-- the live entries of a state, and nothing else
pub in_live_entries : (state : State) (site : SiteName) (c : Cell) → is_live_of site c ≡ true → in_list (live_entries state site) c ≡ finmap.get state c
in_live_entries state site c live =
    find-where_key cell_cmp (is_live_of site) c (λ x tie. ap (is_live_of site) (sym (cell_cmp-IsAntisymmetric c x tie))) (finmap.entries state)
    ∙ ap (λ t. cond t (finmap.find cell_cmp c (finmap.entries state)) None) live ∙ sym (finmap.get-entries state c)

pub passing : {X : Type 0} (test : X → Bool) (xs : List X) → AllByRecursion (λ x. test x ≡ true) (filter test xs)
passing test [] = tt
passing test (x ∷ xs) = elim (test x) as (λ t. test x ≡ t → AllByRecursion (λ y. test y ≡ true) (cond t (x ∷ filter test xs) (filter test xs))) [
  | true ↦ λ e. (e, passing test xs)
  | false ↦ λ e. passing test xs
] refl

-- the file of a tree at a live cell's path
in_tree_at : (site : SiteName) (tree : Paths (List ℕ)) (p : List ℕ) → in_list (live_cells site tree) (cell.Live site p) ≡ option_map value.Live (at_path tree p)
in_tree_at site [] p = refl
in_tree_at site (f ∷ tree) p =
    ap (λ t. cond t (Some (value.Live f.1)) (in_list (live_cells site tree) (cell.Live site p))) (same_paths site p f.0)
    ∙ ap (cond (is_eq (slice_cmp nat_cmp p f.0)) (Some (value.Live f.1))) (in_tree_at site tree p)
    ∙ (elim (is_eq (slice_cmp nat_cmp p f.0)) as (λ t. cond t (Some (value.Live f.1)) (option_map value.Live (at_path tree p)) ≡ option_map value.Live (cond t (Some f.1) (at_path tree p))) [
      | true ↦ refl
      | false ↦ refl
    ])

pub in_tree : (site : SiteName) (tree : Paths (List ℕ)) (c : Cell) → is_live_of site c ≡ true → in_list (live_cells site tree) c ≡ option_map value.Live (at_path tree (text_of c))
in_tree site tree c live = ap (in_list (live_cells site tree)) (live_of site c live) ∙ in_tree_at site tree (text_of c)

-- cells at paths of a site are in the order of the paths
pub path_before : (site : SiteName) (p q : List ℕ) → slice_cmp nat_cmp p q ≡ Less → cell_cmp (cell.Live site p) (cell.Live site q) ≡ Less
path_before site p q less = rw (tied_itself nat_list_cmp_total site.0) (ap (λ r. ordering_then r Equal) less)

paths_before : (site : SiteName) (p : List ℕ) (tree : Paths (List ℕ)) → AllByRecursion (λ q. slice_cmp nat_cmp p q ≡ Less) (map (λ f. f.0) tree)
    → AllByRecursion (λ d. cell_cmp (cell.Live site p) d ≡ Less) (map (λ e. e.0) (live_cells site tree))
paths_before site p [] h = tt
paths_before site p (f ∷ tree) h = (path_before site p f.0 h.0, paths_before site p tree h.1)

pub live_cells_sorted : (site : SiteName) (tree : Paths (List ℕ)) → IsByPath tree → IsStrictlySortedBy cell_cmp (map (λ e. e.0) (live_cells site tree))
unfolding IsStrictlySortedBy
live_cells_sorted site [] h = tt
live_cells_sorted site (f ∷ tree) h = (paths_before site f.0 tree h.0, live_cells_sorted site tree h.1)

pub sides_of : (state : State) (site : SiteName) (tree : Paths (List ℕ)) → AreTogether state tree → IsByPath tree → AreSides site (live_entries state site) tree
sides_of state site tree together by_path = record {
  live_sorted = sorted_from_test cell_cmp (live_entries state site) (is_sorted-where_key cell_cmp (is_live_of site) (finmap.entries state) (finmap.entries_sorted state));
  live_only = passing (λ e. is_live_of site e.0) (finmap.entries state);
  tree_sorted = live_cells_sorted site tree by_path;
  uploads = together.uploads;
  live_uploaded = live_uploaded together.uploads state site together.served_or_kept;
  tree_uploaded = together.listed;
}

-- ---- a publish

pub not_or : (a b : Bool) → (a || b) ≡ false → (a ≡ false) × (b ≡ false)
not_or true b e = cc e
not_or false b e = (refl, e)

pub or_cases : (a b : Bool) → (a || b) ≡ true → (a ≡ true) ⊎ (b ≡ true)
or_cases true b e = inl refl
or_cases false b e = inr e

module _ (site : SiteName) (m : ℕ) (tree : Paths (List ℕ)) (state : State) where
  abbrev kept : Cell
  kept = cell.Kept site m

  abbrev draft : Cell
  draft = cell.Draft site m

  abbrev after : State
  after = with_published site m tree state

  live_after : (c : Cell) → is_live_of site c ≡ true → in_list (live_cells site tree) c ≡ finmap.get after c
  live_after c live =
      in_tree site tree c live
      ∙ sym (get-published site m tree state c
      ∙ ap (λ t. cond t (option_map value.Live (at_path tree (text_of c)))
      (cond (same_cell c draft) None (cond (same_cell c kept) (Some (value.Kept tree)) (finmap.get state c)))) live)

  kept_after : finmap.get after kept ≡ Some (value.Kept tree)
  kept_after = get-published site m tree state kept ∙ rw (same_cell-itself kept) (rw (tied_itself nat_list_cmp_total site.0) refl)

  draft_after : finmap.get after draft ≡ None
  draft_after = get-published site m tree state draft ∙ rw (same_cell-itself draft) refl

  live_before_kept : (c d : Cell) → is_live_of site c ≡ true → is_cell kept d ≡ true → cell_cmp c d ≡ Less
  live_before_kept c d live at =
      rw (live_of site c live) (rw (one_cell d kept at) (rw (tied_itself nat_list_cmp_total site.0) refl))

  before_draft : (c d : Cell) → (is_live_of site c || is_cell kept c) ≡ true → is_cell draft d ≡ true → cell_cmp c d ≡ Less
  before_draft c d earlier at = elim (or_cases (is_live_of site c) (is_cell kept c) earlier) [
    | inl live ↦ rw (live_of site c live) (rw (one_cell d draft at) (rw (tied_itself nat_list_cmp_total site.0) refl))
    | inr is_kept ↦ rw (one_cell c kept is_kept) (rw (one_cell d draft at) (rw (tied_itself nat_list_cmp_total site.0) refl))
  ]

  others_after : (c : Cell) → ((is_live_of site c || is_cell kept c) || is_cell draft c) ≡ false → finmap.get after c ≡ finmap.get state c
  others_after c other =
      let outer = not_or (is_live_of site c || is_cell kept c) (is_cell draft c) other in
      let inner = not_or (is_live_of site c) (is_cell kept c) outer.0 in
      get-published site m tree state c ∙ rw (inner.0, outer.1, inner.1) refl

  pub published_changes : (changes : List Change) → AreLiveChanges site (live_entries state site) tree changes
      → IsDifference state after ((changes ++ option_to_list (change_at kept (finmap.get state kept) (Some (value.Kept tree)))) ++ option_to_list (change_at draft (finmap.get state draft) None))
  published_changes changes are =
      let f : Reading = finmap.get state in
      let g : Reading = finmap.get after in
      let live : AreChangesIn (is_live_of site) f g changes =
      reread (is_live_of site) _ _ f g (in_live_entries state site) live_after changes are in
      let kept_part : AreChangesIn (is_cell kept) f g (option_to_list (change_at kept (f kept) (Some (value.Kept tree)))) =
      rw kept_after at (change_in_cell kept f g) in
      let draft_part : AreChangesIn (is_cell draft) f g (option_to_list (change_at draft (f draft) None)) =
      rw draft_after at (change_in_cell draft f g) in
      whole _ state after others_after _
      (joined _ (is_cell draft) f g before_draft _ _ (joined (is_live_of site) (is_cell kept) f g live_before_kept changes _ live kept_part) draft_part)

-- ---- the files that are served

-- where they alone change
pub served_changes : (site : SiteName) (tree : Paths (List ℕ)) (state : State) (changes : List Change) → AreLiveChanges site (live_entries state site) tree changes
    → IsDifference state (with_served site tree state) changes
served_changes site tree state changes are =
    let f : Reading = finmap.get state in
    let g : Reading = finmap.get (with_served site tree state) in
    let after : (c : Cell) → is_live_of site c ≡ true → in_list (live_cells site tree) c ≡ g c = λ c live.
    in_tree site tree c live
    ∙ sym (get-served site tree state c ∙ ap (λ t. cond t (option_map value.Live (at_path tree (text_of c))) (f c)) live) in
    whole (is_live_of site) state (with_served site tree state)
    (λ c other. get-served site tree state c ∙ ap (λ t. cond t (option_map value.Live (at_path tree (text_of c))) (f c)) other)
    changes (reread (is_live_of site) _ _ f g (in_live_entries state site) after changes are)

-- ---- one cell, or two

module _ (state : State) (at : Cell) (v : Option Value) where
  there : finmap.get (with_cell state at v) at ≡ v
  there = get-with_cell state at v at ∙ ap (λ t. cond t v (finmap.get state at)) (same_cell-itself at)

  pub one_change : IsDifference state (with_cell state at v) (option_to_list (change_at at (finmap.get state at) v))
  one_change =
      let f : Reading = finmap.get state in
      let g : Reading = finmap.get (with_cell state at v) in
      let one : AreChangesIn (is_cell at) f g (option_to_list (change_at at (f at) v)) = rw there at (change_in_cell at f g) in
      whole (is_cell at) state (with_cell state at v) (λ c other. get-with_cell state at v c ∙ ap (λ t. cond t v (finmap.get state c)) other) _ one

module _ (state : State) (a b : Cell) (v w : Option Value) (less : cell_cmp a b ≡ Less) where
  abbrev both : State
  both = with_cell (with_cell state a v) b w

  apart : same_cell a b ≡ false
  apart = ap is_eq less

  in_first : finmap.get both a ≡ v
  in_first = get-with_two state a b v w a ∙ rw (apart, same_cell-itself a) refl

  in_second : finmap.get both b ≡ w
  in_second = get-with_two state a b v w b ∙ rw (same_cell-itself b) refl

  parted : (c d : Cell) → is_cell a c ≡ true → is_cell b d ≡ true → cell_cmp c d ≡ Less
  parted c d is_a is_b = rw (one_cell c a is_a, one_cell d b is_b) less

  pub two_changes : IsDifference state both (option_to_list (change_at a (finmap.get state a) v) ++ option_to_list (change_at b (finmap.get state b) w))
  two_changes =
      let f : Reading = finmap.get state in
      let g : Reading = finmap.get both in
      let first : AreChangesIn (is_cell a) f g (option_to_list (change_at a (f a) v)) = rw in_first at (change_in_cell a f g) in
      let second : AreChangesIn (is_cell b) f g (option_to_list (change_at b (f b) w)) = rw in_second at (change_in_cell b f g) in
      whole (λ c. is_cell a c || is_cell b c) state both
      (λ c other. let parts = not_or (is_cell a c) (is_cell b c) other in get-with_two state a b v w c ∙ rw (parts.1, parts.0) refl)
      _ (joined (is_cell a) (is_cell b) f g parted _ _ first second)

-- the order of two writes in different cells doesn't matter
pub swapped : (state : State) (a b : Cell) (v w : Option Value) → same_cell a b ≡ false → with_cell (with_cell state b w) a v ≡ with_cell (with_cell state a v) b w
swapped state a b v w apart = finmap.same_map cell_cmp_total cell_cmp-IsAntisymmetric _ _ (λ c.
    get-with_two state b a w v c
    ∙ (elim (same_cell c a) as (λ t. same_cell c a ≡ t → cond t v (cond (same_cell c b) w (finmap.get state c)) ≡ cond (same_cell c b) w (cond t v (finmap.get state c))) [
      | true ↦ λ e. sym (ap (λ t. cond t w (cond true v (finmap.get state c))) (ap (λ x. same_cell x b) (one_cell c a e) ∙ apart))
      | false ↦ λ e. refl
    ] refl)
    ∙ sym (get-with_two state a b v w c))

-- ---- the same, as the code puts it together

pub publish_plan : (site : SiteName) (m : ℕ) (tree : Paths (List ℕ)) (state : State) (live : List (Cell × Value)) (listed : Paths (List ℕ)) (kept_at draft_at : Cell)
    (first second third : List Change) → live ≡ live_entries state site → listed ≡ tree → AreLiveChanges site live listed first
    → kept_at ≡ cell.Kept site m → second ≡ first ++ option_to_list (change_at kept_at (finmap.get state kept_at) (Some (value.Kept tree)))
    → draft_at ≡ cell.Draft site m → third ≡ second ++ option_to_list (change_at draft_at (finmap.get state draft_at) None)
    → IsDifference state (with_published site m tree state) third
publish_plan site m tree state live listed kept_at draft_at first second third is_live is_listed are is_kept_at is_second is_draft_at is_third =
    let P : List (Cell × Value) → Type 0 = λ l. AreLiveChanges site l listed first in
    let Q : Paths (List ℕ) → Type 0 = λ t. AreLiveChanges site (live_entries state site) t first in
    let f : Reading = finmap.get state in
    let all : third ≡ (first ++ option_to_list (change_at (cell.Kept site m) (f (cell.Kept site m)) (Some (value.Kept tree))))
    ++ option_to_list (change_at (cell.Draft site m) (f (cell.Draft site m)) None) =
    is_third ∙ (λ i. (is_second ∙ (λ j. first ++ option_to_list (change_at (is_kept_at j) (f (is_kept_at j)) (Some (value.Kept tree))))) i
    ++ option_to_list (change_at (is_draft_at i) (f (is_draft_at i)) None)) in
    let R : List Change → Type 0 = IsDifference state (with_published site m tree state) in
    subst R (sym all) (published_changes site m tree state first (subst Q is_listed (subst P is_live are)))
