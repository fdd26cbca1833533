-- What names stand for, and that it stays as more is uploaded.
use Rattle.std.proofs.Common.{◌≡◌, ℕ, true, false, cond, is_some, List, [], ◌∷◌, map, Option, Some, None, option_map, unwrap_or, IsTrue, refl, sym, ap, subst, ◌∙◌}
use Rattle.std.specs.FinMap as finmap
use Rattle.std.specs.List.{AllByRecursion}
use Rattle.std.specs.Ordering.{eq_by_cmp}
use Rattle.byte_view.specs.Contents.{AreDigested, Contents}
use Rattle.host_names.specs.CellOrder.{cell_cmp_total, cell_cmp-IsAntisymmetric}
use Rattle.host_names.specs.Cells.{cell_cmp}
use Rattle.host_names.specs.Digests.{digest_of}
use Rattle.host_names.specs.declared.cells.Cell.{Cell}
use Rattle.host_names.specs.declared.cells.Cell.TheVariants as cell
use Rattle.host_names.specs.declared.digests.Digest.{Digest}
use Rattle.host_names.specs.declared.names.SiteName.{SiteName}
use Rattle.site_state.specs.Files.{Paths}
use Rattle.site_state.specs.Named.{AliasesNamed}
use Rattle.site_state.specs.States.{State, AreOfKind, as_number, as_tree, may_stand}
use Rattle.site_state.specs.declared.values.Value.{Value}
use Rattle.site_state.specs.declared.values.Value.TheVariants as value
use Rattle.site_change.specs.Changes.{IsWithin}
use Rattle.site_change.specs.Uploaded.{AreUploaded, HasUploaded, HoldsUploaded, IsUploadedTree}
use Rattle.change_log.specs.Bases.{HasKnown, IsBase, IsKnown, Names, file_of, is_of_kind, name_of, names_of, resolved, value_of}
use Rattle.change_log.specs.declared.names.Name.{Name}
use Rattle.change_log.specs.declared.names.Name.TheVariants as name

pub find-mapped : {X Y : Type 0} (f : X → Y) (es : List (Cell × X)) (q : Cell) → finmap.find cell_cmp q (map (λ e. (e.0, f e.1)) es) ≡ option_map f (finmap.find cell_cmp q es)
find-mapped f [] q = refl
find-mapped f (e ∷ es) q =
    ap (cond (eq_by_cmp cell_cmp q e.0) (Some (f e.1))) (find-mapped f es q)
    ∙ (elim (eq_by_cmp cell_cmp q e.0) as (λ t. cond t (Some (f e.1)) (option_map f (finmap.find cell_cmp q es)) ≡ option_map f (cond t (Some e.1) (finmap.find cell_cmp q es))) [
      | true ↦ refl
      | false ↦ refl
    ])

pub get-mapped : {X Y : Type 0} (f : X → Y) (m : finmap.FinMap cell_cmp X) (q : Cell)
    → finmap.get (finmap.from_entries {R = cell_cmp} (map (λ e. (e.0, f e.1)) (finmap.entries m))) q ≡ option_map f (finmap.get m q)
get-mapped f m q =
    finmap.get-from_entries cell_cmp_total (map (λ e. (e.0, f e.1)) (finmap.entries m)) q ∙ find-mapped f (finmap.entries m) q
    ∙ sym (ap (option_map f) (finmap.get-entries m q))

-- in each cell is the value of the name in it
pub get-resolved : (uploads : Contents) (names : Names) (c : Cell) → finmap.get (resolved uploads names) c ≡ option_map (value_of uploads) (finmap.get names c)
get-resolved uploads names c = get-mapped (value_of uploads) names c

-- no names stand for nothing
pub resolved-empty : (uploads : Contents) → resolved uploads finmap.empty ≡ finmap.empty
resolved-empty uploads = finmap.same_map cell_cmp_total cell_cmp-IsAntisymmetric _ _ (λ q.
    get-resolved uploads finmap.empty q ∙ ap (option_map (value_of uploads)) (finmap.get-empty cell_cmp q) ∙ sym (finmap.get-empty cell_cmp q))

-- ---- a state and its names

module _ (uploads : Contents) where
  tree_back : (tree : Paths (List ℕ)) → IsUploadedTree uploads tree → map (λ (f : List ℕ × Digest). (f.0, file_of uploads f.1)) (map (λ (f : List ℕ × List ℕ). (f.0, digest_of f.1)) tree) ≡ tree
  tree_back [] all = refl
  tree_back (f ∷ tree) all =
      ap (λ (o : Option (List ℕ)). (f.0, unwrap_or o []) ∷ map (λ (f : List ℕ × Digest). (f.0, file_of uploads f.1)) (map (λ (f : List ℕ × List ℕ). (f.0, digest_of f.1)) tree)) all.0
      ∙ ap (λ (t : Paths (List ℕ)). f ∷ t) (tree_back tree all.1)

  value_back : (v : Option Value) → HoldsUploaded uploads v → option_map (value_of uploads) (option_map name_of v) ≡ v
  value_back None h = refl
  value_back (Some (value.Live file)) h = ap (λ o. Some (value.Live (unwrap_or o []))) h
  value_back (Some (value.Kept tree)) h = ap (λ t. Some (value.Kept t)) (tree_back tree h)
  value_back (Some (value.Alias n)) h = refl
  value_back (Some (value.Draft draft)) h = refl

  -- a state whose files were uploaded is what its names stand for
  pub resolved-names : (state : State) → AreUploaded uploads state → resolved uploads (names_of state) ≡ state
  resolved-names state all =
      finmap.same_map cell_cmp_total cell_cmp-IsAntisymmetric _ _ (λ q.
      get-mapped (value_of uploads) (names_of state) q ∙ ap (option_map (value_of uploads)) (get-mapped name_of state q)
      ∙ value_back (finmap.get state q) (all q))

-- ---- what a base stands for

pub kind_of_value : (uploads : Contents) (c : Cell) (v : Name) → IsTrue (is_of_kind c v) → IsTrue (may_stand c (Some (value_of uploads v)))
kind_of_value uploads (cell.Live site path) (name.Live digest) e = refl
kind_of_value uploads (cell.Live site path) (name.Kept files) e = cc e
kind_of_value uploads (cell.Live site path) (name.Alias n) e = cc e
kind_of_value uploads (cell.Live site path) (name.Draft draft) e = cc e
kind_of_value uploads (cell.Kept site k) (name.Live digest) e = cc e
kind_of_value uploads (cell.Kept site k) (name.Kept files) e = refl
kind_of_value uploads (cell.Kept site k) (name.Alias n) e = cc e
kind_of_value uploads (cell.Kept site k) (name.Draft draft) e = cc e
kind_of_value uploads (cell.Alias site alias) (name.Live digest) e = cc e
kind_of_value uploads (cell.Alias site alias) (name.Kept files) e = cc e
kind_of_value uploads (cell.Alias site alias) (name.Alias n) e = refl
kind_of_value uploads (cell.Alias site alias) (name.Draft draft) e = cc e
kind_of_value uploads (cell.Draft site k) (name.Live digest) e = cc e
kind_of_value uploads (cell.Draft site k) (name.Kept files) e = cc e
kind_of_value uploads (cell.Draft site k) (name.Alias n) e = cc e
kind_of_value uploads (cell.Draft site k) (name.Draft draft) e = refl

pub resolved-of_kind : (uploads : Contents) (names : Names) → ((c : Cell) (v : Name) → finmap.get names c ≡ Some v → IsTrue (is_of_kind c v)) → AreOfKind (resolved uploads names)
resolved-of_kind uploads names kinds c =
    ap (may_stand c) (get-resolved uploads names c)
    ∙ (elim (finmap.get names c) as (λ o. finmap.get names c ≡ o → may_stand c (option_map (value_of uploads) o) ≡ true) [
      | None ↦ λ e. refl
      | Some v ↦ λ e. kind_of_value uploads c v (kinds c v e)
    ] refl)

-- an alias, as the name that stands for its value
alias_named : (uploads : Contents) (o : Option Name) (m : ℕ) → as_number (option_map (value_of uploads) o) ≡ Some m → o ≡ Some (name.Alias m)
alias_named uploads None m e = cc e
alias_named uploads (Some (name.Live digest)) m e = cc e
alias_named uploads (Some (name.Kept files)) m e = cc e
alias_named uploads (Some (name.Alias n)) m e = let same : n ≡ m = cc e in ap (λ k. Some (name.Alias k)) same
alias_named uploads (Some (name.Draft draft)) m e = cc e

-- what is in the cell of a kept deploy stands for files
kept_named : (uploads : Contents) (site : SiteName) (m : ℕ) (o : Option Name) → ((v : Name) → o ≡ Some v → IsTrue (is_of_kind (cell.Kept site m) v)) → is_some o ≡ true
    → is_some (as_tree (option_map (value_of uploads) o)) ≡ true
kept_named uploads site m None kind there = cc there
kept_named uploads site m (Some (name.Live digest)) kind there = cc (kind (name.Live digest) refl)
kept_named uploads site m (Some (name.Kept files)) kind there = refl
kept_named uploads site m (Some (name.Alias n)) kind there = cc (kind (name.Alias n) refl)
kept_named uploads site m (Some (name.Draft draft)) kind there = cc (kind (name.Draft draft) refl)

-- each alias names a kept deploy in what a base stands for
pub base-named : (uploads : Contents) (base : ℕ) (names : Names) → IsBase uploads base names → AliasesNamed (resolved uploads names)
base-named uploads base names is site alias m stands =
    let at : finmap.get names (cell.Alias site alias) ≡ Some (name.Alias m) =
    alias_named uploads _ m (sym (ap as_number (get-resolved uploads names (cell.Alias site alias))) ∙ stands) in
    ap (λ o. is_some (as_tree o)) (get-resolved uploads names (cell.Kept site m))
    ∙ kept_named uploads site m (finmap.get names (cell.Kept site m)) (λ v there. is.of_kind (cell.Kept site m) v there) (is.named site alias m at)

module _ (uploads : Contents) (digested : AreDigested uploads) where
  file_known : (digest : Digest) → IsKnown uploads digest → finmap.get uploads (digest_of (file_of uploads digest)) ≡ Some (file_of uploads digest)
  file_known digest known = at (finmap.get uploads digest) refl known
    where
      at : (o : Option (List ℕ)) → finmap.get uploads digest ≡ o → is_some o ≡ true
          → finmap.get uploads (digest_of (file_of uploads digest)) ≡ Some (file_of uploads digest)
      at None e k = cc k
      at (Some bytes) e k =
          let file : file_of uploads digest ≡ bytes = ap (λ (o : Option (List ℕ)). unwrap_or o []) e in
          let own : digest ≡ digest_of bytes = ap (λ (b : List ℕ). record { 0 = b }) (digested digest bytes e) in
          ap (λ (b : List ℕ). finmap.get uploads (digest_of b)) file ∙ ap (finmap.get uploads) (sym own) ∙ e ∙ ap Some (sym file)

  tree_known : (files : Paths Digest) → AllByRecursion (λ f. IsKnown uploads f.1) files
      → IsUploadedTree uploads (map (λ (f : List ℕ × Digest). (f.0, file_of uploads f.1)) files)
  tree_known [] all = tt
  tree_known (f ∷ files) all = (file_known f.1 all.0, tree_known files all.1)

  name_known : (v : Name) → HasKnown uploads v → HasUploaded uploads (value_of uploads v)
  name_known (name.Live digest) h = file_known digest h
  name_known (name.Kept files) h = tree_known files h
  name_known (name.Alias n) h = tt
  name_known (name.Draft draft) h = tt

  -- each file that is served or kept was uploaded
  pub resolved-uploaded : (names : Names) → ((c : Cell) (v : Name) → finmap.get names c ≡ Some v → HasKnown uploads v) → AreUploaded uploads (resolved uploads names)
  resolved-uploaded names known c =
      subst (HoldsUploaded uploads) (sym (get-resolved uploads names c)) (at (finmap.get names c) refl)
    where
      at : (o : Option Name) → finmap.get names c ≡ o → HoldsUploaded uploads (option_map (value_of uploads) o)
      at None e = tt
      at (Some v) e = name_known v (known c v e)

-- ---- more uploads

module _ (uploads more : Contents) (within : IsWithin uploads more) where
  pub known_stays : (digest : Digest) → IsKnown uploads digest → IsKnown more digest
  known_stays digest known = at (finmap.get uploads digest) refl known
    where
      at : (o : Option (List ℕ)) → finmap.get uploads digest ≡ o → is_some o ≡ true → IsKnown more digest
      at None e k = cc k
      at (Some bytes) e k = ap is_some (within digest bytes e)

  file_stays : (digest : Digest) → IsKnown uploads digest → file_of more digest ≡ file_of uploads digest
  file_stays digest known = at (finmap.get uploads digest) refl known
    where
      at : (o : Option (List ℕ)) → finmap.get uploads digest ≡ o → is_some o ≡ true → file_of more digest ≡ file_of uploads digest
      at None e k = cc k
      at (Some bytes) e k = ap (λ o. unwrap_or o []) (within digest bytes e ∙ sym e)

  files_stay : (files : Paths Digest) → AllByRecursion (λ f. IsKnown uploads f.1) files
      → map {A = List ℕ × Digest} {B = List ℕ × List ℕ} (λ f. (f.0, file_of more f.1)) files ≡ map {A = List ℕ × Digest} {B = List ℕ × List ℕ} (λ f. (f.0, file_of uploads f.1)) files
  files_stay [] all = refl
  files_stay (f ∷ files) all =
      ap (λ (b : List ℕ). (f.0, b) ∷ map {A = List ℕ × Digest} {B = List ℕ × List ℕ} (λ f. (f.0, file_of more f.1)) files) (file_stays f.1 all.0)
      ∙ ap (λ (t : Paths (List ℕ)). (f.0, file_of uploads f.1) ∷ t) (files_stay files all.1)

  all_stay : (files : Paths Digest) → AllByRecursion (λ f. IsKnown uploads f.1) files → AllByRecursion (λ f. IsKnown more f.1) files
  all_stay [] all = tt
  all_stay (f ∷ files) all = (known_stays f.1 all.0, all_stay files all.1)

  pub name_stays : (v : Name) → HasKnown uploads v → HasKnown more v
  name_stays (name.Live digest) h = known_stays digest h
  name_stays (name.Kept files) h = all_stay files h
  name_stays (name.Alias n) h = tt
  name_stays (name.Draft draft) h = tt

  value_stays : (v : Name) → HasKnown uploads v → value_of more v ≡ value_of uploads v
  value_stays (name.Live digest) h = ap value.Live (file_stays digest h)
  value_stays (name.Kept files) h = ap value.Kept (files_stay files h)
  value_stays (name.Alias n) h = refl
  value_stays (name.Draft draft) h = refl

  pub resolved-stays : (names : Names) → ((c : Cell) (v : Name) → finmap.get names c ≡ Some v → HasKnown uploads v) → resolved more names ≡ resolved uploads names
  resolved-stays names known =
      finmap.same_map cell_cmp_total cell_cmp-IsAntisymmetric _ _ (λ q.
      get-resolved more names q ∙ at q (finmap.get names q) refl ∙ sym (get-resolved uploads names q))
    where
      at : (q : Cell) (o : Option Name) → finmap.get names q ≡ o → option_map (value_of more) o ≡ option_map (value_of uploads) o
      at q None e = refl
      at q (Some v) e = ap Some (value_stays v (known q v e))

  -- a base stays one
  pub base-stays : (base : ℕ) (names : Names) → IsBase uploads base names → IsBase more base names
  base-stays base names is = record {
    of_kind = is.of_kind;
    named = is.named;
    within = is.within;
    once = is.once;
    known = λ c v there. name_stays v (is.known c v there);
  }

-- ---- no base

-- nothing is in any cell of no names
abbrev no_names : Names
no_names = finmap.empty

none_there : (c : Cell) (v : Name) → finmap.get no_names c ≡ Some v → ⊥
none_there c v there = cc (sym (finmap.get-empty cell_cmp c) ∙ there)

pub base-empty : (uploads : Contents) → IsBase uploads 0 finmap.empty
base-empty uploads = record {
  of_kind = λ c v there. absurd (none_there c v there);
  named = λ site alias n there. absurd (none_there (cell.Alias site alias) (name.Alias n) there);
  within = λ c v n there of. absurd (none_there c v there);
  once = λ c d v w n there other of also. absurd (none_there c v there);
  known = λ c v there. absurd (none_there c v there);
}
