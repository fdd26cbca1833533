-- What the renaming of a folder leaves in each cell, and what it changes.
use Rattle.std.proofs.Common.{◌≡◌, ◌⊎◌, inl, inr, ℕ, Bool, true, false, not, cond, ◌&&◌, ◌||◌, List, [], ◌∷◌, ◌++◌, map, filter, Option, Some, None, is_some, option_map, refl, sym, ap, subst, ◌∙◌}
use Rattle.std.specs.FinMap as finmap
use Rattle.std.specs.FinMap.Entries.{find-where_key, is_sorted-where_key, same_entries}
use Rattle.std.specs.List.{AllByRecursion, cons_option, list_any}
use Rattle.std.specs.List.Sorted.{IsStrictlySortedBy}
use Rattle.std.specs.Option.{option_and_then}
use Rattle.std.specs.Cmp.Lexicographic.{slice_cmp}
use Rattle.std.specs.Ordering.{is_eq, nat_cmp, ordering_then}
use Rattle.std.specs.Str.{bytes_eq}
use Rattle.std.specs.declared.cmp.Ordering.{Ordering}
use Rattle.std.specs.declared.cmp.Ordering.TheVariants.{Less, Equal, Greater}
use Rattle.std.proofs.lemmas.Cmp.{tied_itself, nat_list_cmp_total}
use Rattle.std.proofs.lemmas.Slice.Eq.{bytes_eq-Decides}
use Rattle.persistent_maps.proofs.Entries.{sorted_from_test}
use Rattle.byte_view.specs.Contents.{Contents}
use Rattle.host_names.specs.Cells.{cell_cmp, is_live, site_of, text_of}
use Rattle.host_names.specs.CellOrder.{cell_cmp_total, cell_cmp-IsAntisymmetric, texts-IsAntisymmetric}
use Rattle.host_names.specs.Folders.{begins_with, is_below, moved, slash_after}
use Rattle.host_names.proofs.Folders.{texts, begins-order, begins-apart, folders-apart, below-of, moved-below, moved-order, moved-is}
use Rattle.host_names.specs.declared.names.SiteName.{SiteName}
use Rattle.host_names.specs.declared.cells.Cell.{Cell}
use Rattle.host_names.specs.declared.cells.Cell.TheVariants as cell
use Rattle.site_state.specs.Files.{Paths, IsByPath, at_path}
use Rattle.site_state.specs.Named.{AliasesNamed}
use Rattle.site_state.specs.States.{State, as_file, as_number, as_tree, live_at, may_stand, is_live_of, is_live_below, entries_below}
use Rattle.site_state.specs.declared.values.Value.{Value}
use Rattle.site_state.specs.declared.values.Value.TheVariants as value
use Rattle.site_state.specs.declared.changes.Change.{Change}
use Rattle.site_change.specs.declared.refusals.ChangeRefusal.{ChangeRefusal}
use Rattle.site_change.specs.declared.refusals.ChangeRefusal.TheVariants.{SamePath, NestedFolder}
use Rattle.site_change.specs.Changes.{same_cell, is_too_long, move_refusal, folder_refusal, with_live, without_below, moved_files, folder_renamed}
use Rattle.site_change.specs.Differences.{Reading, IsChangeIn, AreChangesIn, AreLiveChanges, AreMovable, AreSides, AreTogether, IsBelowPath, in_list, live_cells}
use Rattle.site_change.specs.Laws.{AgreeOn, LeavesFolder}
use Rattle.site_change.specs.Plans.{IsDifference}
use Rattle.site_change.specs.Uploaded.{IsUploadedTree, HasUploaded, HoldsUploaded, AreUploaded}
use Rattle.site_change.proofs.Comparing.{filtered_uploaded}
use Rattle.site_change.proofs.Composing.{reread, whole}
use Rattle.site_change.proofs.Deciding.{in_tree, live_cells_sorted, passing, path_before}
use Rattle.site_change.proofs.Deploys.{NoneNew}
use Rattle.site_change.proofs.Differences.{AllLater, compare_live, found_later}
use Rattle.site_change.proofs.Drafts.{DraftsStay}
use Rattle.site_change.proofs.Effects.{one_cell, same_cell-itself, bytes_eq-itself, live_of, same_paths, or_else, get-with_live, get-with_live_other}
use Rattle.site_change.proofs.Fitting.{IsLeftOrFits, live_fits}
use Rattle.site_change.proofs.SitesTouched.{at_path as at_site}
use Rattle.site_change.proofs.Uploading.{either, serve_uploaded}

-- ---- cells below a folder

both : (a b : Bool) → (a && b) ≡ true → (a ≡ true) × (b ≡ true)
both true b e = (refl, e)
both false b e = cc e

pub below_live : (site : SiteName) (folder : List ℕ) (c : Cell) → is_live_below site folder c ≡ true → is_live_of site c ≡ true
below_live site folder (cell.Live other path) e = (both _ _ e).0
below_live site folder (cell.Kept other n) e = cc e
below_live site folder (cell.Alias other name) e = cc e
below_live site folder (cell.Draft other n) e = cc e

pub below_path : (site : SiteName) (folder : List ℕ) (c : Cell) → is_live_below site folder c ≡ true → IsBelowPath folder c
below_path site folder (cell.Live other path) e = (refl, (both _ _ e).1)
below_path site folder (cell.Kept other n) e = cc e
below_path site folder (cell.Alias other name) e = cc e
below_path site folder (cell.Draft other n) e = cc e

live_below : (site : SiteName) (folder : List ℕ) (c : Cell) → is_live_of site c ≡ true → is_live_below site folder c ≡ is_below folder (text_of c)
live_below site folder (cell.Live other path) e = ap (λ t. t && is_below folder path) e
live_below site folder (cell.Kept other n) e = cc e
live_below site folder (cell.Alias other name) e = cc e
live_below site folder (cell.Draft other n) e = cc e

not_live_below : (site : SiteName) (folder : List ℕ) (c : Cell) → is_live_of site c ≡ false → is_live_below site folder c ≡ false
not_live_below site folder (cell.Live other path) e = ap (λ t. t && is_below folder path) e
not_live_below site folder (cell.Kept other n) e = refl
not_live_below site folder (cell.Alias other name) e = refl
not_live_below site folder (cell.Draft other n) e = refl

pub at_below : (site : SiteName) (folder : List ℕ) (c : Cell) → is_live_below site folder c ≡ true → site_of c ≡ site
at_below site folder c e = at_site site c (below_live site folder c e)

-- cells at paths of a site are compared by the paths
by_texts : (site : SiteName) (c d : Cell) → is_live_of site c ≡ true → is_live_of site d ≡ true → cell_cmp c d ≡ texts (text_of c) (text_of d)
by_texts site c d at_c at_d = ap (cell_cmp c) (live_of site d at_d) ∙ compare_live site site (text_of c) (text_of d) c (live_of site c at_c) at_c

-- ---- the files below a folder

abbrev pub Files : Type 0
Files = List (Cell × Value)

abbrev pub AllBelow : SiteName → List ℕ → Files → Type 0
AllBelow site folder files = AllByRecursion (λ e. is_live_below site folder e.0 ≡ true) files

pub all_below : (state : State) (site : SiteName) (folder : List ℕ) → AllBelow site folder (entries_below state site folder)
all_below state site folder = passing (λ e. is_live_below site folder e.0) (finmap.entries state)

files_sorted : (state : State) (site : SiteName) (folder : List ℕ) → IsStrictlySortedBy cell_cmp (map (λ e. e.0) (entries_below state site folder))
files_sorted state site folder =
    sorted_from_test cell_cmp (entries_below state site folder) (is_sorted-where_key cell_cmp (is_live_below site folder) (finmap.entries state) (finmap.entries_sorted state))

in_files : (state : State) (site : SiteName) (folder : List ℕ) (c : Cell) → in_list (entries_below state site folder) c ≡ cond (is_live_below site folder c) (finmap.get state c) None
in_files state site folder c =
    find-where_key cell_cmp (is_live_below site folder) c (λ x tie. ap (is_live_below site folder) (sym (cell_cmp-IsAntisymmetric c x tie))) (finmap.entries state)
    ∙ ap (λ v. cond (is_live_below site folder c) v None) (sym (finmap.get-entries state c))

-- they are the same where each of their cells has the same
pub same_files : (site : SiteName) (folder : List ℕ) (state other : State) → AgreeOn (is_live_below site folder) state other → entries_below other site folder ≡ entries_below state site folder
same_files site folder state other agree =
    let sorted = λ (s : State). is_sorted-where_key cell_cmp (is_live_below site folder) (finmap.entries s) (finmap.entries_sorted s) in
    same_entries cell_cmp cell_cmp_total cell_cmp-IsAntisymmetric (entries_below other site folder) (entries_below state site folder) (sorted other) (sorted state) (λ c.
    in_files other site folder c
    ∙ (elim (is_live_below site folder c) as (λ t. is_live_below site folder c ≡ t → cond t (finmap.get other c) None ≡ cond t (finmap.get state c) None) [
      | true ↦ λ e. agree c e
      | false ↦ λ e. refl
    ] refl)
    ∙ sym (in_files state site folder c))

-- ---- the same files in the other folder

module _ (site : SiteName) (source target : List ℕ) where
  abbrev pub new_files : Files → Paths (List ℕ)
  new_files files = moved_files source target files

  abbrev with_file : List ℕ → Option (List ℕ) → Paths (List ℕ) → Paths (List ℕ)
  with_file q file rest = cons_option (option_map (λ bytes. (q, bytes)) file) rest

  -- a path that isn't below the new folder has none of them
  none_at : (q : List ℕ) (file : Option (List ℕ)) (rest : Paths (List ℕ)) (p : List ℕ) → is_below target q ≡ true → is_below target p ≡ false → at_path rest p ≡ None
      → at_path (with_file q file rest) p ≡ None
  none_at q None rest p at_q other none = none
  none_at q (Some bytes) rest p at_q other none =
      elim (slice_cmp nat_cmp p q) as (λ r. slice_cmp nat_cmp p q ≡ r → cond (is_eq r) (Some bytes) (at_path rest p) ≡ None) [
        | Less ↦ λ e. none
        | Equal ↦ λ e. cc (sym other ∙ ap (is_below target) (texts-IsAntisymmetric p q e) ∙ at_q)
        | Greater ↦ λ e. none
      ] refl

  pub no_new_file : (files : Files) (p : List ℕ) → AllBelow site source files → is_below target p ≡ false → at_path (new_files files) p ≡ None
  no_new_file [] p below other = refl
  no_new_file (e ∷ files) p below other =
      none_at (moved source target (text_of e.0)) (as_file (Some e.1)) (new_files files) p
      (moved-below source target (text_of e.0) (below_path site source e.0 below.0).1) other (no_new_file files p below.1 other)

  -- they are by path, as the old ones are
  abbrev AllAfter : List ℕ → Paths (List ℕ) → Type 0
  AllAfter p tree = AllByRecursion (λ q. slice_cmp nat_cmp p q ≡ Less) (map (λ f. f.0) tree)

  with_later : (p q : List ℕ) (file : Option (List ℕ)) (rest : Paths (List ℕ)) → slice_cmp nat_cmp p q ≡ Less → AllAfter p rest → AllAfter p (with_file q file rest)
  with_later p q None rest less after = after
  with_later p q (Some bytes) rest less after = (less, after)

  after_first : (c : Cell) (files : Files) → is_live_below site source c ≡ true → AllBelow site source files → AllLater c files → AllAfter (moved source target (text_of c)) (new_files files)
  after_first c [] at below later = tt
  after_first c (e ∷ files) at below later =
      with_later (moved source target (text_of c)) (moved source target (text_of e.0)) (as_file (Some e.1)) (new_files files)
      (moved-order source target (text_of c) (text_of e.0) (below_path site source c at).1 (below_path site source e.0 below.0).1
      ∙ sym (by_texts site c e.0 (below_live site source c at) (below_live site source e.0 below.0)) ∙ later.0)
      (after_first c files at below.1 later.1)

  with_first_file : (q : List ℕ) (file : Option (List ℕ)) (rest : Paths (List ℕ)) → AllAfter q rest → IsByPath rest → IsByPath (with_file q file rest)
  unfolding IsStrictlySortedBy
  with_first_file q None rest after sorted = sorted
  with_first_file q (Some bytes) rest after sorted = (after, sorted)

  pub new_by_path : (files : Files) → AllBelow site source files → IsStrictlySortedBy cell_cmp (map (λ e. e.0) files) → IsByPath (new_files files)
  unfolding IsStrictlySortedBy
  new_by_path [] below sorted = tt
  new_by_path (e ∷ files) below sorted =
      with_first_file (moved source target (text_of e.0)) (as_file (Some e.1)) (new_files files) (after_first e.0 files below.0 below.1 sorted.0)
      (new_by_path files below.1 sorted.1)

  -- they were uploaded
  with_uploaded : (uploads : Contents) (q : List ℕ) (v : Value) (rest : Paths (List ℕ)) → HasUploaded uploads v → IsUploadedTree uploads rest → IsUploadedTree uploads (with_file q (as_file (Some v)) rest)
  with_uploaded uploads q (value.Live file) rest one others = (one, others)
  with_uploaded uploads q (value.Kept tree) rest one others = others
  with_uploaded uploads q (value.Alias n) rest one others = others
  with_uploaded uploads q (value.Draft draft) rest one others = others

  pub new_uploaded : (uploads : Contents) (files : Files) → AllByRecursion (λ e. HasUploaded uploads e.1) files → IsUploadedTree uploads (new_files files)
  new_uploaded uploads [] all = tt
  new_uploaded uploads (e ∷ files) all = with_uploaded uploads (moved source target (text_of e.0)) e.1 (new_files files) all.0 (new_uploaded uploads files all.1)

  -- at the new path is what is at the old one
  found_file : (q : List ℕ) (file : Option (List ℕ)) (rest : Paths (List ℕ)) (p : List ℕ) (others : Option Value)
      → (is_eq (slice_cmp nat_cmp p q) ≡ true → others ≡ None) → at_path rest p ≡ as_file others
      → at_path (with_file q file rest) p ≡ cond (is_eq (slice_cmp nat_cmp p q)) file (as_file others)
  found_file q None rest p others alone found =
      elim (is_eq (slice_cmp nat_cmp p q)) as (λ t. is_eq (slice_cmp nat_cmp p q) ≡ t → at_path rest p ≡ cond t None (as_file others)) [
        | true ↦ λ e. found ∙ ap as_file (alone e)
        | false ↦ λ e. found
      ] refl
  found_file q (Some bytes) rest p others alone found = ap (cond (is_eq (slice_cmp nat_cmp p q)) (Some bytes)) found

  pub new_file : (files : Files) (p : List ℕ) → AllBelow site source files → IsStrictlySortedBy cell_cmp (map (λ e. e.0) files) → is_below source p ≡ true
      → at_path (new_files files) (moved source target p) ≡ as_file (in_list files (cell.Live site p))
  unfolding IsStrictlySortedBy
  new_file [] p below sorted at = refl
  new_file (e ∷ files) p below sorted at =
      let c = cell.Live site p in
      let q = text_of e.0 in
      let e_at = below_path site source e.0 below.0 in
      let same : slice_cmp nat_cmp (moved source target p) (moved source target q) ≡ cell_cmp c e.0 =
      moved-order source target p q at e_at.1 ∙ sym (by_texts site c e.0 (bytes_eq-itself site.0) (below_live site source e.0 below.0)) in
      found_file (moved source target q) (as_file (Some e.1)) (new_files files) (moved source target p) (in_list files c)
      (λ tie. found_later e.0 c files sorted.0 (λ less. let one : same_cell e.0 c ≡ true = ap (same_cell e.0) (one_cell c e.0 (sym (ap is_eq same) ∙ tie)) ∙ same_cell-itself e.0 in cc (sym (ap is_eq less) ∙ one)))
      (new_file files p below.1 sorted.1 at)
      ∙ ap (λ r. cond (is_eq r) (as_file (Some e.1)) (as_file (in_list files c))) same
      ∙ (elim (is_eq (cell_cmp c e.0)) as (λ t. cond t (as_file (Some e.1)) (as_file (in_list files c)) ≡ as_file (cond t (Some e.1) (in_list files c))) [
        | true ↦ refl
        | false ↦ refl
      ])

-- ---- what is in a cell afterwards

pub get-without_below : (site : SiteName) (folder : List ℕ) (state : State) (c : Cell)
    → finmap.get (without_below site folder state) c ≡ cond (not (is_live_below site folder c)) (finmap.get state c) None
get-without_below site folder state c =
    finmap.get-retain_keys state (λ x. not (is_live_below site folder x)) c (λ x e. ap (λ y. not (is_live_below site folder y)) (sym (cell_cmp-IsAntisymmetric c x e)))

module _ (site : SiteName) (source target : List ℕ) (files : Files) where
  abbrev tree : Paths (List ℕ)
  tree = moved_files source target files

  -- what is there where the site comes to serve these files, and nothing below the old folder
  abbrev pub renamed_value : State → Cell → Option Value
  renamed_value state c =
      cond (is_live_of site c) (or_else (option_map value.Live (at_path tree (text_of c))) (cond (not (is_live_below site source c)) (finmap.get state c) None)) (finmap.get state c)

  pub get-renamed : (state : State) (c : Cell) → finmap.get (folder_renamed site source target state files) c ≡ renamed_value state c
  get-renamed state c =
      let base = without_below site source state in
      elim (is_live_of site c) as (λ t. is_live_of site c ≡ t → finmap.get (with_live site tree base) c
      ≡ cond t (or_else (option_map value.Live (at_path tree (text_of c))) (cond (not (is_live_below site source c)) (finmap.get state c) None)) (finmap.get state c)) [
        | true ↦ λ e.
            let at : c ≡ cell.Live site (text_of c) = live_of site c e in
            ap (finmap.get (with_live site tree base)) at ∙ get-with_live site tree base (text_of c)
            ∙ ap (or_else (option_map value.Live (at_path tree (text_of c)))) (ap (finmap.get base) (sym at) ∙ get-without_below site source state c)
        | false ↦ λ e.
            get-with_live_other site tree base c e ∙ get-without_below site source state c
            ∙ ap (λ t. cond (not t) (finmap.get state c) None) (not_live_below site source c e)
      ] refl

  -- it depends on what was there alone
  pub renamed_reads : (state other : State) (c : Cell) → finmap.get other c ≡ finmap.get state c
      → finmap.get (folder_renamed site source target other files) c ≡ finmap.get (folder_renamed site source target state files) c
  renamed_reads state other c same =
      get-renamed other c
      ∙ ap (λ v. cond (is_live_of site c) (or_else (option_map value.Live (at_path tree (text_of c))) (cond (not (is_live_below site source c)) v None)) v) same
      ∙ sym (get-renamed state c)

  -- what is below neither folder stays
  pub renamed_leaves : AllBelow site source files → (state : State) (c : Cell) → is_live_below site source c ≡ false → is_live_below site target c ≡ false
      → finmap.get (folder_renamed site source target state files) c ≡ finmap.get state c
  renamed_leaves below state c not_source not_target =
      get-renamed state c
      ∙ (elim (is_live_of site c) as (λ t. is_live_of site c ≡ t
      → cond t (or_else (option_map value.Live (at_path tree (text_of c))) (cond (not (is_live_below site source c)) (finmap.get state c) None)) (finmap.get state c) ≡ finmap.get state c) [
        | true ↦ λ e.
            let none = no_new_file site source target files (text_of c) below (sym (live_below site target c e) ∙ not_target) in
            (λ i. or_else (option_map value.Live (none i)) (cond (not (not_source i)) (finmap.get state c) None))
        | false ↦ λ e. refl
      ] refl)

  -- what is there is of the cell's kind
  pub renamed_fits : (state : State) (c : Cell) → IsLeftOrFits state (folder_renamed site source target state files) c
  renamed_fits state c =
      subst (λ (v : Option Value). (v ≡ finmap.get state c) ⊎ (may_stand c v ≡ true)) (sym (get-renamed state c))
      (elim (is_live_of site c) as (λ t. is_live_of site c ≡ t
      → (cond t (or_else (option_map value.Live (at_path tree (text_of c))) (cond (not (is_live_below site source c)) (finmap.get state c) None)) (finmap.get state c) ≡ finmap.get state c)
      ⊎ (may_stand c (cond t (or_else (option_map value.Live (at_path tree (text_of c))) (cond (not (is_live_below site source c)) (finmap.get state c) None)) (finmap.get state c)) ≡ true)) [
        | true ↦ λ e. one c (at_path tree (text_of c)) (is_live_below site source c) (finmap.get state c) e
        | false ↦ λ e. inl refl
      ] refl)
    where
      one : (c : Cell) (file : Option (List ℕ)) (below : Bool) (v : Option Value) → is_live_of site c ≡ true
          → (or_else (option_map value.Live file) (cond (not below) v None) ≡ v) ⊎ (may_stand c (or_else (option_map value.Live file) (cond (not below) v None)) ≡ true)
      one c (Some file) below v e = inr (ap (λ x. may_stand x (Some (value.Live file))) (live_of site c e) ∙ live_fits site (text_of c) (Some file))
      one c None true v e = inr refl
      one c None false v e = inl refl

  pub named_renamed : (state : State) → AliasesNamed state → AliasesNamed (folder_renamed site source target state files)
  named_renamed state named own name m stands =
      ap (λ o. is_some (as_tree o)) (get-renamed state (cell.Kept own m))
      ∙ named own name m (sym (ap as_number (get-renamed state (cell.Alias own name))) ∙ stands)

  pub none_by_renaming : (state : State) → NoneNew state (folder_renamed site source target state files)
  none_by_renaming state other m (inl there) = inl (sym (ap is_some (get-renamed state (cell.Draft other m))) ∙ there)
  none_by_renaming state other m (inr there) = inr (sym (ap is_some (get-renamed state (cell.Kept other m))) ∙ there)

  pub stay_by_renaming : (state : State) → DraftsStay state (folder_renamed site source target state files)
  stay_by_renaming state other m = inl (get-renamed state (cell.Draft other m))

pub renamed_uploaded : (uploads : Contents) (site : SiteName) (source target : List ℕ) (state : State) → AreUploaded uploads state
    → AreUploaded uploads (folder_renamed site source target state (entries_below state site source))
renamed_uploaded uploads site source target state all =
    serve_uploaded uploads site (moved_files source target (entries_below state site source)) (without_below site source state)
    (new_uploaded site source target uploads (entries_below state site source) (filtered_uploaded uploads state (is_live_below site source) all))
    (λ c. subst (HoldsUploaded uploads) (sym (get-without_below site source state c)) (either uploads (not (is_live_below site source c)) (finmap.get state c) None (all c) tt))

-- ---- where the renaming is accepted

pub record IsFree (site : SiteName) (source target : List ℕ) (state : State) : Type 0 where
  pub other : bytes_eq source target ≡ false
  pub below : is_below source target ≡ false
  pub above : is_below target source ≡ false
  pub short : list_any (is_too_long source target) (entries_below state site source) ≡ false
  pub free : entries_below state site target ≡ []

or_none : (a b : Bool) → (a || b) ≡ false → (a ≡ false) × (b ≡ false)
or_none true b e = cc e
or_none false b e = (refl, e)

pub accepted_free : (site : SiteName) (source target : List ℕ) (state : State)
    → folder_refusal source target (entries_below state site source) (entries_below state site target) ≡ None → IsFree site source target state
accepted_free site source target state accepted =
    let all = parts (bytes_eq source target) (is_below source target || is_below target source) (list_any (is_too_long source target) (entries_below state site source))
    (entries_below state site source) (entries_below state site target) accepted in
    let apart = or_none (is_below source target) (is_below target source) all.1 in
    record { other = all.0; below = apart.0; above = apart.1; short = all.2; free = all.3 }
  where
    parts : (same nested long : Bool) (files there : Files) → cond same (Some SamePath) (cond nested (Some NestedFolder) (move_refusal long files there)) ≡ None
        → (same ≡ false) × (nested ≡ false) × (long ≡ false) × (there ≡ [])
    parts true nested long files there e = cc e
    parts false true long files there e = cc e
    parts false false long [] there e = cc e
    parts false false true (f ∷ files) there e = cc e
    parts false false false (f ∷ files) [] e = (refl, refl, refl, refl)
    parts false false false (f ∷ files) (g ∷ there) e = cc e

-- among fewer cells, where the readings differ in no others
module _ (test narrow : Cell → Bool) (f g : Reading) (within : (c : Cell) → narrow c ≡ true → test c ≡ true) (same : (c : Cell) → test c ≡ true → narrow c ≡ false → f c ≡ g c) where
  narrow_each : (changes : List Change) → AllByRecursion (IsChangeIn test f g) changes → AllByRecursion (IsChangeIn narrow f g) changes
  narrow_each [] h = tt
  narrow_each (d ∷ changes) h =
      let passes : narrow d.cell ≡ true = elim (narrow d.cell) as (λ t. narrow d.cell ≡ t → t ≡ true) [
        | true ↦ λ e. refl
        | false ↦ λ e. absurd (h.0.3 (h.0.1 ∙ same d.cell h.0.0 e ∙ sym h.0.2))
      ] refl in
      let change : IsChangeIn narrow f g d = (passes, h.0.1, h.0.2, h.0.3) in
      (change, narrow_each changes h.1)

  narrowed : (changes : List Change) → AreChangesIn test f g changes → AreChangesIn narrow f g changes
  narrowed changes are = record {
    ordered = are.ordered;
    each = narrow_each changes are.each;
    others = λ c passes none. are.others c (within c passes) none;
  }

module _ (site : SiteName) (source target : List ℕ) (state : State) (is : IsFree site source target state) where
  abbrev files : Files
  files = entries_below state site source

  abbrev new : Paths (List ℕ)
  new = moved_files source target files

  abbrev after : State
  after = folder_renamed site source target state files

  abbrev in_either : Cell → Bool
  in_either c = is_live_below site source c || is_live_below site target c

  below_old : AllBelow site source files
  below_old = all_below state site source

  not_same : source ≡ target → ⊥
  not_same same = cc (sym is.other ∙ (bytes_eq-Decides source target).1 same)

  not_turned : target ≡ source → ⊥
  not_turned same = not_same (sym same)

  -- no path is below both
  not_both : (p : List ℕ) → is_below source p ≡ true → is_below target p ≡ true → ⊥
  not_both p at_source at_target =
      let no_first = folders-apart source target not_same is.below in
      let no_second = folders-apart target source not_turned is.above in
      begins-apart (slash_after target) (slash_after source) no_first
      (sym (begins-order (slash_after target) (slash_after source) p p no_first no_second at_target at_source) ∙ tied_itself nat_list_cmp_total p)

  not_target : (c : Cell) → is_live_below site source c ≡ true → is_below target (text_of c) ≡ false
  not_target c at = elim (is_below target (text_of c)) as (λ t. is_below target (text_of c) ≡ t → t ≡ false) [
    | true ↦ λ e. absurd (not_both (text_of c) (below_path site source c at).1 e)
    | false ↦ λ e. refl
  ] refl

  not_source : (c : Cell) → is_live_below site target c ≡ true → is_live_below site source c ≡ false
  not_source c at = elim (is_live_below site source c) as (λ t. is_live_below site source c ≡ t → t ≡ false) [
    | true ↦ λ e. absurd (not_both (text_of c) (below_path site source c e).1 (below_path site target c at).1)
    | false ↦ λ e. refl
  ] refl

  -- nothing was where they go
  was_free : (c : Cell) → is_live_below site target c ≡ true → finmap.get state c ≡ None
  was_free c at =
      sym (in_files state site target c ∙ ap (λ t. cond t (finmap.get state c) None) at) ∙ ap (λ l. in_list l c) is.free

  -- what is there before, as the list of the old files tells it
  old_reading : (c : Cell) → in_either c ≡ true → in_list files c ≡ finmap.get state c
  old_reading c at = elim (is_live_below site source c) as (λ t. is_live_below site source c ≡ t → (t || is_live_below site target c) ≡ true → in_list files c ≡ finmap.get state c) [
    | true ↦ λ e _. in_files state site source c ∙ ap (λ t. cond t (finmap.get state c) None) e
    | false ↦ λ e in_target. in_files state site source c ∙ ap (λ t. cond t (finmap.get state c) None) e ∙ sym (was_free c in_target)
  ] refl at

  -- and afterwards, as that of the new files does
  in_new : (c : Cell) → is_live_of site c ≡ true → in_list (live_cells site new) c ≡ option_map value.Live (at_path new (text_of c))
  in_new = in_tree site new

  or_none_left : (o : Option Value) → or_else o None ≡ o
  or_none_left None = refl
  or_none_left (Some v) = refl

  at_source : (c : Cell) → is_live_below site source c ≡ true → finmap.get after c ≡ None
  at_source c e =
      let live = below_live site source c e in
      get-renamed site source target files state c
      ∙ ap (λ t. cond t (or_else (option_map value.Live (at_path new (text_of c))) (cond (not (is_live_below site source c)) (finmap.get state c) None)) (finmap.get state c)) live
      ∙ (λ i. or_else (option_map value.Live (no_new_file site source target files (text_of c) below_old (not_target c e) i)) (cond (not (e i)) (finmap.get state c) None))

  at_target : (c : Cell) → is_live_below site target c ≡ true → finmap.get after c ≡ option_map value.Live (at_path new (text_of c))
  at_target c e =
      let live = below_live site target c e in
      get-renamed site source target files state c
      ∙ ap (λ t. cond t (or_else (option_map value.Live (at_path new (text_of c))) (cond (not (is_live_below site source c)) (finmap.get state c) None)) (finmap.get state c)) live
      ∙ ap (or_else (option_map value.Live (at_path new (text_of c)))) ((λ i. cond (not (not_source c e i)) (finmap.get state c) None) ∙ was_free c e)
      ∙ or_none_left _

  new_reading : (c : Cell) → in_either c ≡ true → in_list (live_cells site new) c ≡ finmap.get after c
  new_reading c at = elim (is_live_below site source c) as (λ t. is_live_below site source c ≡ t → (t || is_live_below site target c) ≡ true → in_list (live_cells site new) c ≡ finmap.get after c) [
    | true ↦ λ e _. in_new c (below_live site source c e) ∙ ap (option_map value.Live) (no_new_file site source target files (text_of c) below_old (not_target c e)) ∙ sym (at_source c e)
    | false ↦ λ e in_target. in_new c (below_live site target c in_target) ∙ sym (at_target c in_target)
  ] refl at

  within_live : (c : Cell) → in_either c ≡ true → is_live_of site c ≡ true
  within_live c at = elim (is_live_below site source c) as (λ t. is_live_below site source c ≡ t → (t || is_live_below site target c) ≡ true → is_live_of site c ≡ true) [
    | true ↦ λ e _. below_live site source c e
    | false ↦ λ e in_target. below_live site target c in_target
  ] refl at

  -- elsewhere neither list has anything
  same_elsewhere : (c : Cell) → is_live_of site c ≡ true → in_either c ≡ false → in_list files c ≡ in_list (live_cells site new) c
  same_elsewhere c live other =
      let parts = or_none (is_live_below site source c) (is_live_below site target c) other in
      in_files state site source c ∙ ap (λ t. cond t (finmap.get state c) None) parts.0
      ∙ sym (in_new c live ∙ ap (option_map value.Live) (no_new_file site source target files (text_of c) below_old (sym (live_below site target c live) ∙ parts.1)))

  -- what changes as the two lists do is the difference
  pub folder_difference : (changes : List Change) → AreLiveChanges site files new changes → IsDifference state after changes
  folder_difference changes are =
      whole in_either state after
      (λ c other. let parts = or_none (is_live_below site source c) (is_live_below site target c) other in renamed_leaves site source target files below_old state c parts.0 parts.1)
      changes
      (reread in_either (in_list files) (in_list (live_cells site new)) (finmap.get state) (finmap.get after) old_reading new_reading changes
      (narrowed (is_live_of site) in_either (in_list files) (in_list (live_cells site new)) within_live same_elsewhere changes are))

  -- ---- the law

  pub leaves_folder : LeavesFolder site source target state after
  leaves_folder = record {
    moved = λ rest.
        let p = source ++ 47 ∷ rest in
        let at = cell.Live site (target ++ 47 ∷ rest) in
        let there : is_live_below site target at ≡ true = λ i. bytes_eq-itself site.0 i && below-of target rest i in
        let from_there : is_live_below site source (cell.Live site p) ≡ true = λ i. bytes_eq-itself site.0 i && below-of source rest i in
        let found = new_file site source target files p below_old (files_sorted state site source) (below-of source rest) in
        ap as_file (at_target at there ∙ ap (λ q. option_map value.Live (at_path new q)) (sym (moved-is source target (47 ∷ rest))) ∙ ap (option_map value.Live) found)
        ∙ again (as_file (in_list files (cell.Live site p)))
        ∙ ap as_file (in_files state site source (cell.Live site p) ∙ ap (λ t. cond t (finmap.get state (cell.Live site p)) None) from_there);
    emptied = λ rest. at_source (cell.Live site (source ++ 47 ∷ rest)) (λ i. bytes_eq-itself site.0 i && below-of source rest i);
    others = λ c not_source not_target. renamed_leaves site source target files below_old state c not_source not_target;
  }
    where
      again : (o : Option (List ℕ)) → as_file (option_map value.Live o) ≡ o
      again None = refl
      again (Some file) = refl

-- ---- as the code calls it

pub all_paths_below : (state : State) (site : SiteName) (folder : List ℕ) → AllByRecursion (λ e. IsBelowPath folder e.0) (entries_below state site folder)
all_paths_below state site folder = all_paths (entries_below state site folder) (all_below state site folder)
  where
    all_paths : (files : Files) → AllBelow site folder files → AllByRecursion (λ e. IsBelowPath folder e.0) files
    all_paths [] below = tt
    all_paths (e ∷ files) below = (below_path site folder e.0 below.0, all_paths files below.1)

pub movable : (site : SiteName) (source target : List ℕ) (state : State) → IsFree site source target state → AreMovable source target (entries_below state site source)
movable site source target state is = record { below = all_paths_below state site source; short = is.short }

pub sides_of_move : (site : SiteName) (source target : List ℕ) (state : State) → AreTogether state [] → AreSides site (entries_below state site source) (moved_files source target (entries_below state site source))
sides_of_move site source target state together =
    let files = entries_below state site source in
    let uploaded = filtered_uploaded together.uploads state (is_live_below site source) together.served_or_kept in record {
      live_sorted = files_sorted state site source;
      live_only = all_live files (all_below state site source);
      tree_sorted = live_cells_sorted site (moved_files source target files) (new_by_path site source target files (all_below state site source) (files_sorted state site source));
      uploads = together.uploads;
      live_uploaded = uploaded;
      tree_uploaded = new_uploaded site source target together.uploads files uploaded;
    }
  where
    all_live : (files : Files) → AllBelow site source files → AllByRecursion (λ e. is_live_of site e.0 ≡ true) files
    all_live [] below = tt
    all_live (e ∷ files) below = (below_live site source e.0 below.0, all_live files below.1)
