-- What a patch leaves in each cell, and what it changes.
use Rattle.std.proofs.Common.{◌≡◌, ◌⊎◌, inl, inr, ℕ, zero, suc, ◌+◌, ◌<◌, ◌≤◌, Bool, true, false, cond, ◌||◌, List, [], ◌∷◌, ◌++◌, take, take_all, length, get_or, Option, Some, None, is_some, option_map, option_to_list, refl, sym, ap, subst, ◌∙◌, arith}
use Rattle.std.specs.FinMap as finmap
use Rattle.std.specs.Cmp.Lexicographic.{slice_cmp}
use Rattle.std.specs.List.Sorted.{IsStrictlySortedBy}
use Rattle.std.specs.Ordering.{is_eq, nat_cmp}
use Rattle.std.specs.declared.cmp.Ordering.TheVariants.{Less}
use Rattle.std.proofs.lemmas.Cmp.{tied_itself, nat_list_cmp_total}
use Rattle.std.proofs.lemmas.List.{take_more}
use Rattle.byte_view.specs.Contents.{Contents}
use Rattle.host_names.specs.Cells.{cell_cmp}
use Rattle.host_names.specs.declared.digests.Digest.{Digest}
use Rattle.host_names.specs.declared.names.SiteName.{SiteName}
use Rattle.host_names.specs.declared.cells.Cell.{Cell}
use Rattle.host_names.specs.declared.cells.Cell.TheVariants as cell
use Rattle.site_state.specs.Files.{Paths, IsByPath, at_path}
use Rattle.site_state.specs.States.{State, may_stand, is_live_of}
use Rattle.site_state.specs.declared.values.Value.{Value}
use Rattle.site_state.specs.declared.values.Value.TheVariants as value
use Rattle.persistent_maps.proofs.Entries.{key_at-less}
use Rattle.site_state.specs.declared.changes.Change.{Change}
use Rattle.site_change.specs.Changes.{same_cell, file_at, is_listed, with_listed, with_patch}
use Rattle.site_change.specs.Differences.{Reading, AreChangesIn, AreListedChanges, change_at}
use Rattle.site_change.specs.Plans.{IsDifference}
use Rattle.site_change.proofs.Composing.{reread, change_in_cell, joined, whole, is_cell}
use Rattle.site_change.proofs.Deciding.{path_before, not_or, or_cases}
use Rattle.site_change.proofs.Differences.{later_is_other}
use Rattle.site_change.proofs.Effects.{one_cell, same_cell-itself, same_paths, bytes_eq-itself, get-with_cell}

abbrev pub Listings : Type 0
Listings = Paths (Option Digest)

-- ---- what is listed

pub not_listed : (site : SiteName) (files : Listings) (c : Cell) → is_live_of site c ≡ false → is_listed site files c ≡ false
not_listed site [] c other = refl
not_listed site (f ∷ files) c other = elim (same_cell c (cell.Live site f.0)) as (λ t. same_cell c (cell.Live site f.0) ≡ t → (t || is_listed site files c) ≡ false) [
  | true ↦ λ e.
      let live : is_live_of site c ≡ true = rw (one_cell c (cell.Live site f.0) e) (bytes_eq-itself site.0) in
      cc (sym other ∙ live)
  | false ↦ λ e. not_listed site files c other
] refl

pub listed_path : (site : SiteName) (files : Listings) (p : List ℕ) → is_listed site files (cell.Live site p) ≡ is_some (at_path files p)
listed_path site [] p = refl
listed_path site (f ∷ files) p =
    ap (λ t. t || is_listed site files (cell.Live site p)) (same_paths site p f.0)
    ∙ (elim (is_eq (slice_cmp nat_cmp p f.0)) as (λ t. (t || is_listed site files (cell.Live site p)) ≡ is_some (cond t (Some f.1) (at_path files p))) [
      | true ↦ refl
      | false ↦ listed_path site files p
    ])

-- ---- what is in each cell afterwards

abbrev pub listed_value : SiteName → Contents → Listings → Cell → Option Value → Option Value
listed_value site uploads [] c old = old
listed_value site uploads (f ∷ files) c old = cond (same_cell c (cell.Live site f.0)) (option_map value.Live (file_at uploads f.1)) (listed_value site uploads files c old)

module _ (site : SiteName) (uploads : Contents) where
  pub get-with_listed : (files : Listings) (state : State) (c : Cell) → finmap.get (with_listed site uploads files state) c ≡ listed_value site uploads files c (finmap.get state c)
  get-with_listed [] state c = refl
  get-with_listed (f ∷ files) state c =
      get-with_cell (with_listed site uploads files state) (cell.Live site f.0) (option_map value.Live (file_at uploads f.1)) c
      ∙ ap (cond (same_cell c (cell.Live site f.0)) (option_map value.Live (file_at uploads f.1))) (get-with_listed files state c)

  pub get-with_patch : (m : ℕ) (files : Listings) (state : State) (c : Cell)
      → finmap.get (with_patch site m uploads files state) c ≡ cond (same_cell c (cell.Draft site m)) None (listed_value site uploads files c (finmap.get state c))
  get-with_patch m files state c =
      get-with_cell (with_listed site uploads files state) (cell.Draft site m) None c ∙ ap (cond (same_cell c (cell.Draft site m)) None) (get-with_listed files state c)

  -- what is not listed stays
  pub unlisted : (files : Listings) (c : Cell) (old : Option Value) → is_listed site files c ≡ false → listed_value site uploads files c old ≡ old
  unlisted [] c old none = refl
  unlisted (f ∷ files) c old none =
      let parts = not_or (same_cell c (cell.Live site f.0)) (is_listed site files c) none in
      ap (λ t. cond t (option_map value.Live (file_at uploads f.1)) (listed_value site uploads files c old)) parts.0 ∙ unlisted files c old parts.1

  file_fits : (path : List ℕ) (file : Option (List ℕ)) → may_stand (cell.Live site path) (option_map value.Live file) ≡ true
  file_fits path None = refl
  file_fits path (Some bytes) = refl

  -- and else a file is there, or nothing
  pub listed_fits : (files : Listings) (c : Cell) (old : Option Value)
      → (listed_value site uploads files c old ≡ old) ⊎ (may_stand c (listed_value site uploads files c old) ≡ true)
  listed_fits [] c old = inl refl
  listed_fits (f ∷ files) c old =
      elim (same_cell c (cell.Live site f.0)) as (λ t. same_cell c (cell.Live site f.0) ≡ t
      → (cond t (option_map value.Live (file_at uploads f.1)) (listed_value site uploads files c old) ≡ old)
      ⊎ (may_stand c (cond t (option_map value.Live (file_at uploads f.1)) (listed_value site uploads files c old)) ≡ true)) [
        | true ↦ λ at. inr (ap (λ x. may_stand x (option_map value.Live (file_at uploads f.1))) (one_cell c (cell.Live site f.0) at) ∙ file_fits f.0 (file_at uploads f.1))
        | false ↦ λ _. listed_fits files c old
      ] refl

  -- at each listed path is what is listed for it
  pub listed_at : (files : Listings) (i : ℕ) (d : List ℕ × Option Digest) (old : Option Value) → IsByPath files → i < length files
      → listed_value site uploads files (cell.Live site (get_or files i d).0) old ≡ option_map value.Live (file_at uploads (get_or files i d).1)
  unfolding IsStrictlySortedBy
  listed_at [] i d old by_path lt = absurd (omega (arith, lt))
  listed_at (f ∷ files) zero d old by_path lt =
      ap (λ t. cond t (option_map value.Live (file_at uploads f.1)) (listed_value site uploads files (cell.Live site f.0) old)) (same_cell-itself (cell.Live site f.0))
  listed_at (f ∷ files) (suc i) d old by_path lt =
      let here = cell.Live site (get_or files i d).0 in
      let less : slice_cmp nat_cmp f.0 (get_or files i d).0 ≡ Less = key_at-less (slice_cmp nat_cmp) (f ∷ files) 0 (suc i) d by_path (omega arith) lt in
      let other : same_cell here (cell.Live site f.0) ≡ false = later_is_other (cell.Live site f.0) here (path_before site f.0 (get_or files i d).0 less) in
      ap (λ t. cond t (option_map value.Live (file_at uploads f.1)) (listed_value site uploads files here old)) other ∙ listed_at files i d old by_path.1 (omega (arith, lt))

-- ---- where the listed cells are

module _ (site : SiteName) where
  -- they are those of the paths
  find_listed : (files : Listings) (i : ℕ) (c : Cell) (d : List ℕ × Option Digest) → i ≤ length files → is_listed site (take i files) c ≡ true
      → (j : ℕ) × (j < i) × (c ≡ cell.Live site (get_or files j d).0)
  find_listed files zero c d le in_list = cc in_list
  find_listed [] (suc i) c d le in_list = cc in_list
  find_listed (f ∷ files) (suc i) c d le in_list = elim (or_cases (same_cell c (cell.Live site f.0)) (is_listed site (take i files) c) in_list) [
    | inl first ↦ (0, omega arith, one_cell c (cell.Live site f.0) first)
    | inr rest ↦ let at = find_listed files i c d (omega (arith, le)) rest in (suc at.0, omega (arith, at.1), at.2)
  ]

  -- they come before the drafts of the site
  pub listed_before_draft : (m : ℕ) (files : Listings) (c : Cell) → is_listed site files c ≡ true → cell_cmp c (cell.Draft site m) ≡ Less
  listed_before_draft m [] c in_list = cc in_list
  listed_before_draft m (f ∷ files) c in_list = elim (or_cases (same_cell c (cell.Live site f.0)) (is_listed site files c) in_list) [
    | inl first ↦ rw (one_cell c (cell.Live site f.0) first) (rw (tied_itself nat_list_cmp_total site.0) refl)
    | inr rest ↦ listed_before_draft m files c rest
  ]

  one_or : (a b c : Bool) → (a || (b || c)) ≡ ((a || b) || c)
  one_or true b c = refl
  one_or false b c = refl

  or_none : (a : Bool) → (a || false) ≡ a
  or_none true = refl
  or_none false = refl

  -- one path more
  listed_more : (files : Listings) (f : List ℕ × Option Digest) (c : Cell) → is_listed site (files ++ f ∷ []) c ≡ (is_listed site files c || is_cell (cell.Live site f.0) c)
  listed_more [] f c = or_none (same_cell c (cell.Live site f.0))
  listed_more (e ∷ files) f c = ap (λ t. same_cell c (cell.Live site e.0) || t) (listed_more files f c) ∙ one_or (same_cell c (cell.Live site e.0)) (is_listed site files c) (is_cell (cell.Live site f.0) c)

-- ---- what a patch changes

-- the changes in the cells of a test are those of another that answers the same
pub retest : (s t : Cell → Bool) (f g : Reading) (changes : List Change) → ((c : Cell) → s c ≡ t c) → AreChangesIn s f g changes → AreChangesIn t f g changes
retest s t f g changes same are =
    let P : (Cell → Bool) → Type 0 = λ test. AreChangesIn test f g changes in
    let one : s ≡ t = λ i c. same c i in
    subst P one are

module _ (site : SiteName) (uploads : Contents) (files : Listings) (state : State) where
  abbrev f : Reading
  f = finmap.get state

  abbrev g : Reading
  g = finmap.get (with_listed site uploads files state)

  abbrev Changed : ℕ → List Change → Type 0
  Changed i changes = AreChangesIn (is_listed site (take i files)) f g changes

  pub none_changed : (changes : List Change) → changes ≡ [] → Changed 0 changes
  unfolding IsStrictlySortedBy
  none_changed changes none =
      let P : List Change → Type 0 = Changed 0 in
      subst P (sym none) nothing
    where
      nothing : Changed 0 []
      nothing = record { ordered = tt; each = tt; others = λ c passes _. cc passes }

  pub all_changed : (i : ℕ) (changes : List Change) → length files ≤ i → Changed i changes → AreListedChanges site uploads files state changes
  all_changed i changes end are = let P : Listings → Type 0 = λ l. AreChangesIn (is_listed site l) f g changes in subst P (take_all i files end) are

  -- the next path
  pub one_changed : (i : ℕ) (d : List ℕ × Option Digest) (changes next : List Change) (at : Cell) (v : Option Value) → IsByPath files → i < length files
      → d ≡ get_or files i d → Changed i changes → at ≡ cell.Live site d.0 → v ≡ option_map value.Live (file_at uploads d.1)
      → next ≡ changes ++ option_to_list (change_at at (finmap.get state at) v) → Changed (i + 1) next
  one_changed i d changes next at v by_path lt is are is_at is_v is_next =
      let here = cell.Live site d.0 in
      let there : g here ≡ option_map value.Live (file_at uploads d.1) =
      ap (λ (e : List ℕ × Option Digest). g (cell.Live site e.0)) is ∙ get-with_listed site uploads files state (cell.Live site (get_or files i d).0)
      ∙ listed_at site uploads files i d (f (cell.Live site (get_or files i d).0)) by_path lt ∙ ap (λ (e : List ℕ × Option Digest). option_map value.Live (file_at uploads e.1)) (sym is) in
      let one : AreChangesIn (is_cell here) f g (option_to_list (change_at here (f here) (option_map value.Live (file_at uploads d.1)))) = rw there at (change_in_cell here f g) in
      let parted : (c e : Cell) → is_listed site (take i files) c ≡ true → is_cell here e ≡ true → cell_cmp c e ≡ Less = λ c e in_list in_here.
      let at_j = find_listed site files i c d (omega (arith, lt)) in_list in
      let less : slice_cmp nat_cmp (get_or files at_j.0 d).0 (get_or files i d).0 ≡ Less = key_at-less (slice_cmp nat_cmp) files at_j.0 i d by_path at_j.1 lt in
      ap (λ x. cell_cmp x e) at_j.2 ∙ ap (cell_cmp (cell.Live site (get_or files at_j.0 d).0)) (one_cell e here in_here ∙ ap (λ (x : List ℕ × Option Digest). cell.Live site x.0) is)
      ∙ path_before site (get_or files at_j.0 d).0 (get_or files i d).0 less in
      let both = joined (is_listed site (take i files)) (is_cell here) f g parted changes _ are one in
      let more : take (i + 1) files ≡ take i files ++ d ∷ [] = take_more files i d lt ∙ ap (λ x. take i files ++ x ∷ []) (sym is) in
      let same_test : (c : Cell) → (is_listed site (take i files) c || is_cell here c) ≡ is_listed site (take (i + 1) files) c = λ c.
      sym (ap (λ l. is_listed site l c) more ∙ listed_more site (take i files) d c) in
      let P : List Change → Type 0 = Changed (i + 1) in
      subst P (sym (is_next ∙ (λ k. changes ++ option_to_list (change_at (is_at k) (f (is_at k)) (is_v k))))) (retest _ _ f g _ same_test both)

  -- and the draft, which is open no longer
  pub patch_plan : (m : ℕ) (at : Cell) (changes all : List Change) → AreListedChanges site uploads files state changes → at ≡ cell.Draft site m
      → all ≡ changes ++ option_to_list (change_at at (finmap.get state at) None) → IsDifference state (with_patch site m uploads files state) all
  patch_plan m at changes all are is_at is_all =
      let draft = cell.Draft site m in
      let after : Reading = finmap.get (with_patch site m uploads files state) in
      let not_draft : (c : Cell) → is_listed site files c ≡ true → same_cell c draft ≡ false = λ c in_list. ap is_eq (listed_before_draft site m files c in_list) in
      let same_after : (c : Cell) → is_listed site files c ≡ true → g c ≡ after c = λ c in_list.
      sym (get-with_cell (with_listed site uploads files state) draft None c ∙ ap (λ t. cond t None (g c)) (not_draft c in_list)) in
      let listed = reread (is_listed site files) f g f after (λ c _. refl) same_after changes are in
      let gone : after draft ≡ None = get-with_cell (with_listed site uploads files state) draft None draft ∙ ap (λ t. cond t None (g draft)) (same_cell-itself draft) in
      let one : AreChangesIn (is_cell draft) f after (option_to_list (change_at draft (f draft) None)) = rw gone at (change_in_cell draft f after) in
      let parted : (c e : Cell) → is_listed site files c ≡ true → is_cell draft e ≡ true → cell_cmp c e ≡ Less = λ c e in_list in_draft.
      ap (cell_cmp c) (one_cell e draft in_draft) ∙ listed_before_draft site m files c in_list in
      let elsewhere : (c : Cell) → (is_listed site files c || is_cell draft c) ≡ false → after c ≡ f c = λ c other.
      let parts = not_or (is_listed site files c) (is_cell draft c) other in
      get-with_patch site uploads m files state c ∙ ap (λ t. cond t None (listed_value site uploads files c (f c))) parts.1 ∙ unlisted site uploads files c (f c) parts.0 in
      let whole_changes = whole (λ c. is_listed site files c || is_cell draft c) state (with_patch site m uploads files state) elsewhere _
      (joined (is_listed site files) (is_cell draft) f after parted changes _ listed one) in
      let P : List Change → Type 0 = IsDifference state (with_patch site m uploads files state) in
      subst P (sym (is_all ∙ (λ k. changes ++ option_to_list (change_at (is_at k) (f (is_at k)) None)))) whole_changes
