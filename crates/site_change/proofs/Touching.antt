-- What a command touches and what it changes, cell by cell.
use Rattle.std.proofs.Common.{◌≡◌, ◌≢◌, ◌↔◌, ◌⊎◌, inl, inr, ℕ, zero, suc, Bool, true, false, not, cond, ◌&&◌, ◌||◌, List, [], ◌∷◌, length, drop, map, Contains, Option, Some, None, option_map, unwrap_or, refl, sym, ap, ◌∙◌, arith}
use Rattle.std.specs.FinMap as map
use Rattle.std.specs.Option.{option_eq}
use Rattle.byte_view.specs.Contents.{Contents}
use Rattle.host_names.specs.Cells.{text_of}
use Rattle.host_names.specs.Folders.{slash_after}
use Rattle.host_names.proofs.Folders.{below-is, below-of}
use Rattle.host_names.specs.declared.names.SiteName.{SiteName}
use Rattle.host_names.specs.declared.cells.Cell.{Cell}
use Rattle.host_names.specs.declared.cells.Cell.TheVariants as cell
use Rattle.host_names.specs.declared.names.AliasName.{AliasName}
use Rattle.site_state.specs.Files.{Paths}
use Rattle.site_state.specs.Listings.{Listed}
use Rattle.site_state.specs.States.{State, kept_at, draft_at, is_live_of, is_live_below, is_alias_of}
use Rattle.site_state.specs.Values.{value_eq}
use Rattle.site_state.specs.declared.values.Draft.{Draft}
use Rattle.site_state.specs.declared.values.Value.{Value}
use Rattle.site_change.specs.declared.commands.Command.{Command}
use Rattle.site_change.specs.declared.commands.Command.TheVariants.{Open, Publish, Restore, RemoveDeploy}
use Rattle.site_change.specs.Changes.{same_cell, applied, is_listed, publish_touches, restore_touches, touches, changes}
use Rattle.site_change.specs.Laws.{IsBelow, IsPartOfDeploy, IsListedPath, IsPartOfPatch}
use Rattle.site_change.specs.TouchedCells.{is_of_deploy, is_of_patch}
use Rattle.site_change.proofs.Effects.{one_cell, same_cell-itself, bytes_eq-itself, live_of}
use Rattle.site_change.proofs.FolderMoves.{below_live, below_path}
use Rattle.site_change.proofs.Locality.{same_value-itself, same_value-same}
use Rattle.site_change.proofs.Patches.{Listings}
use Rattle.std.proofs.lemmas.Slice.Eq.{bytes_eq-Decides}

-- ---- what changes

differs : (v w : Option Value) → (not (option_eq value_eq v w) ≡ true) ↔ (v ≢ w)
differs v w = (
  λ h same. let is : not (option_eq value_eq v w) ≡ false = ap not (ap (option_eq value_eq v) (sym same) ∙ same_value-itself v) in cc (sym h ∙ is),
  λ other. elim (option_eq value_eq v w) as (λ t. option_eq value_eq v w ≡ t → not t ≡ true) [
    | true ↦ λ e. absurd (other (same_value-same v w e))
    | false ↦ λ e. refl
  ] refl,
)

pub changed : (command : Command) (n : ℕ) (state : State) (uploads : Contents) (c : Cell)
    → (changes command n state uploads c ≡ true) ↔ (map.get state c ≢ map.get (applied command n state uploads) c)
changed command n state uploads c = differs (map.get state c) (map.get (applied command n state uploads) c)

-- ---- what is touched

or_cases : (a b : Bool) → (a || b) ≡ true → (a ≡ true) ⊎ (b ≡ true)
or_cases true b e = inl refl
or_cases false b e = inr e

or_left : (a b : Bool) → a ≡ true → (a || b) ≡ true
or_left a b e = ap (λ t. t || b) e

or_right : (a b : Bool) → b ≡ true → (a || b) ≡ true
or_right true b e = refl
or_right false b e = e

pub cell_is : (a b : Cell) → (same_cell a b ≡ true) ↔ (a ≡ b)
cell_is a b = (one_cell a b, λ e. ap (same_cell a) (sym e) ∙ same_cell-itself a)

pub by_open : (site : SiteName) (files : Listed) (auto : Bool) (n : ℕ) (state : State) (c : Cell)
    → (touches (Open site files auto) n state c ≡ true) ↔ (c ≡ cell.Draft site n)
by_open site files auto n state c = cell_is c (cell.Draft site n)

-- of a test and another that answers the same
same_test : {P : Type 0} (a b : Bool) → a ≡ b → ((b ≡ true) ↔ P) → ((a ≡ true) ↔ P)
same_test a b same is = (λ h. is.0 (sym same ∙ h), λ p. same ∙ is.1 p)

-- of a test or another
either_test : {P Q : Type 0} (a b : Bool) → ((a ≡ true) ↔ P) → ((b ≡ true) ↔ Q) → ((a || b) ≡ true) ↔ (P ⊎ Q)
either_test a b is_a is_b = (
  λ h. elim (or_cases a b h) [ inl first ↦ inl (is_a.0 first) | inr second ↦ inr (is_b.0 second) ],
  λ is. elim is [ inl first ↦ or_left a b (is_a.1 first) | inr second ↦ or_right a b (is_b.1 second) ],
)

-- of two cells
pub either_is : (c a b : Cell) → ((same_cell c a || same_cell c b) ≡ true) ↔ ((c ≡ a) ⊎ (c ≡ b))
either_is c a b = either_test (same_cell c a) (same_cell c b) (cell_is c a) (cell_is c b)

live_is : (site : SiteName) (c : Cell) → (is_live_of site c ≡ true) ↔ ((path : List ℕ) × (c ≡ cell.Live site path))
live_is site c = (λ live. (text_of c, live_of site c live), λ at. ap (is_live_of site) at.1 ∙ bytes_eq-itself site.0)

part_of_deploy : (site : SiteName) (m : ℕ) (c : Cell) → (is_of_deploy site m c ≡ true) ↔ IsPartOfDeploy site m c
part_of_deploy site m c =
    either_test (same_cell c (cell.Draft site m)) (same_cell c (cell.Kept site m) || is_live_of site c) (cell_is c (cell.Draft site m))
    (either_test (same_cell c (cell.Kept site m)) (is_live_of site c) (cell_is c (cell.Kept site m)) (live_is site c))

listed_path : (site : SiteName) (files : Listings) (c : Cell) → is_listed site files c ≡ true → (path : List ℕ) × Contains (map (λ f. f.0) files) path × (c ≡ cell.Live site path)
listed_path site [] c h = cc h
listed_path site (f ∷ files) c h = elim (or_cases (same_cell c (cell.Live site f.0)) (is_listed site files c) h) [
  | inl first ↦ (f.0, (0, omega arith, refl), one_cell c (cell.Live site f.0) first)
  | inr rest ↦ let at = listed_path site files c rest in (at.0, (suc at.1.0, omega (arith, at.1.1), at.1.2), at.2)
]

path_listed : (site : SiteName) (files : Listings) (c : Cell) (path : List ℕ) → Contains (map (λ f. f.0) files) path → c ≡ cell.Live site path → is_listed site files c ≡ true
path_listed site [] c path (k, lt, at) is = absurd (omega (arith, lt))
path_listed site (f ∷ files) c path (zero, lt, at) is =
    or_left (same_cell c (cell.Live site f.0)) (is_listed site files c) ((cell_is c (cell.Live site f.0)).1 (is ∙ ap (cell.Live site) (sym at)))
path_listed site (f ∷ files) c path (suc k, lt, at) is =
    or_right (same_cell c (cell.Live site f.0)) (is_listed site files c) (path_listed site files c path (k, omega (arith, lt), at) is)

listed_is : (site : SiteName) (files : Listings) (c : Cell) → (is_listed site files c ≡ true) ↔ IsListedPath site files c
listed_is site files c = (listed_path site files c, λ at. path_listed site files c at.0 at.1 at.2)

part_of_patch : (site : SiteName) (m : ℕ) (files : Listings) (c : Cell) → (is_of_patch site m files c ≡ true) ↔ IsPartOfPatch site m files c
part_of_patch site m files c = either_test (same_cell c (cell.Draft site m)) (is_listed site files c) (cell_is c (cell.Draft site m)) (listed_is site files c)

or_nothing : (a : Bool) → (a || false) ≡ a
or_nothing true = refl
or_nothing false = refl

or_twice : (a b : Bool) → (a || (a || b)) ≡ (a || b)
or_twice true b = refl
or_twice false b = refl

or_swap : (a b c : Bool) → (a || (b || c)) ≡ (b || (a || c))
or_swap true true c = refl
or_swap true false c = refl
or_swap false b c = refl

module _ (site : SiteName) (m : ℕ) (c : Cell) where
  abbrev here : Bool
  here = same_cell c (cell.Draft site m)

  abbrev kept : Bool
  kept = same_cell c (cell.Kept site m)

  of_full : (draft : Option Draft) (files : Listed) → option_map (λ (d : Draft). d.files) draft ≡ Some files → files.0 ≡ false → publish_touches site m draft c ≡ (kept || is_live_of site c)
  of_full None files found full = cc found
  of_full (Some draft) files found full = ap (λ b. cond b (is_listed site draft.files.1 c) (kept || is_live_of site c)) (ap (λ (o : Option Listed). (unwrap_or o files).0) found ∙ full)

  of_patch : (draft : Option Draft) (files : Listed) → option_map (λ (d : Draft). d.files) draft ≡ Some files → files.0 ≡ true → publish_touches site m draft c ≡ is_listed site files.1 c
  of_patch None files found patch = cc found
  of_patch (Some draft) files found patch =
      let same : draft.files ≡ files = ap (λ (o : Option Listed). unwrap_or o files) found in
      ap (λ (l : Listed). cond l.0 (is_listed site l.1 c) (kept || is_live_of site c)) same ∙ ap (λ b. cond b (is_listed site files.1 c) (kept || is_live_of site c)) patch

  of_none : (draft : Option Draft) → draft ≡ None → publish_touches site m draft c ≡ false
  of_none draft none = ap (λ d. publish_touches site m d c) none

  abbrev files_at : State → Option Listed
  files_at state = option_map (λ (d : Draft). d.files) (draft_at state site m)

  pub by_publish : (n : ℕ) (state : State) (files : Listed) → files_at state ≡ Some files → files.0 ≡ false → (touches (Publish site m) n state c ≡ true) ↔ IsPartOfDeploy site m c
  by_publish n state files found full =
      same_test _ (is_of_deploy site m c) (ap (λ t. here || t) (of_full (draft_at state site m) files found full)) (part_of_deploy site m c)

  pub by_patch : (n : ℕ) (state : State) (files : Listed) → files_at state ≡ Some files → files.0 ≡ true → (touches (Publish site m) n state c ≡ true) ↔ IsPartOfPatch site m files.1 c
  by_patch n state files found patch =
      same_test _ (is_of_patch site m files.1 c) (ap (λ t. here || t) (of_patch (draft_at state site m) files found patch)) (part_of_patch site m files.1 c)

  pub by_unknown : (n : ℕ) (state : State) → draft_at state site m ≡ None → (touches (Publish site m) n state c ≡ true) ↔ (c ≡ cell.Draft site m)
  by_unknown n state none =
      same_test _ here (ap (λ t. here || t) (of_none (draft_at state site m) none) ∙ or_nothing here) (cell_is c (cell.Draft site m))

  -- what a restoring finds open, where no such deploy is kept
  unkept : (tree : Option (Paths (List ℕ))) (draft : Option Draft) → tree ≡ None → restore_touches site m tree draft c ≡ publish_touches site m draft c
  unkept tree draft none = ap (λ k. restore_touches site m k draft c) none

  pub by_restore : (n : ℕ) (state : State) (tree : Paths (List ℕ)) → kept_at state site m ≡ Some tree → (touches (Restore site m) n state c ≡ true) ↔ IsPartOfDeploy site m c
  by_restore n state tree found =
      same_test _ (is_of_deploy site m c) (ap (λ k. here || (kept || restore_touches site m k (draft_at state site m) c)) found) (part_of_deploy site m c)

  pub by_restored_draft : (n : ℕ) (state : State) (files : Listed) → kept_at state site m ≡ None → files_at state ≡ Some files → files.0 ≡ false
      → (touches (Restore site m) n state c ≡ true) ↔ IsPartOfDeploy site m c
  by_restored_draft n state files none found full =
      same_test _ (is_of_deploy site m c)
      (ap (λ t. here || (kept || t)) (unkept (kept_at state site m) (draft_at state site m) none ∙ of_full (draft_at state site m) files found full)
      ∙ ap (λ t. here || t) (or_twice kept (is_live_of site c)))
      (part_of_deploy site m c)

  pub by_restored_patch : (n : ℕ) (state : State) (files : Listed) → kept_at state site m ≡ None → files_at state ≡ Some files → files.0 ≡ true
      → (touches (Restore site m) n state c ≡ true) ↔ ((c ≡ cell.Kept site m) ⊎ IsPartOfPatch site m files.1 c)
  by_restored_patch n state files none found patch =
      same_test _ (kept || is_of_patch site m files.1 c)
      (ap (λ t. here || (kept || t)) (unkept (kept_at state site m) (draft_at state site m) none ∙ of_patch (draft_at state site m) files found patch)
      ∙ or_swap here kept (is_listed site files.1 c))
      (either_test kept (is_of_patch site m files.1 c) (cell_is c (cell.Kept site m)) (part_of_patch site m files.1 c))

  pub by_unknown_restore : (n : ℕ) (state : State) → kept_at state site m ≡ None → draft_at state site m ≡ None
      → (touches (Restore site m) n state c ≡ true) ↔ ((c ≡ cell.Draft site m) ⊎ (c ≡ cell.Kept site m))
  by_unknown_restore n state none undrafted =
      same_test _ (here || kept)
      (ap (λ t. here || (kept || t)) (unkept (kept_at state site m) (draft_at state site m) none ∙ of_none (draft_at state site m) undrafted)
      ∙ ap (λ t. here || t) (or_nothing kept))
      (either_is c (cell.Draft site m) (cell.Kept site m))

  alias_is : (is_alias_of site c ≡ true) ↔ ((name : AliasName) × (c ≡ cell.Alias site name))
  alias_is = (of_alias c, λ at. ap (is_alias_of site) at.1 ∙ bytes_eq-itself site.0)
    where
      of_alias : (c : Cell) → is_alias_of site c ≡ true → (name : AliasName) × (c ≡ cell.Alias site name)
      of_alias (cell.Alias other name) e = (name, λ i. cell.Alias (record { 0 = sym ((bytes_eq-Decides site.0 other.0).0 e) i }) name)
      of_alias (cell.Live other path) e = cc e
      of_alias (cell.Kept other n) e = cc e
      of_alias (cell.Draft other n) e = cc e

  pub by_removal : (n : ℕ) (state : State) → (touches (RemoveDeploy site m) n state c ≡ true) ↔ ((c ≡ cell.Kept site m) ⊎ ((name : AliasName) × (c ≡ cell.Alias site name)))
  by_removal n state = either_test kept (is_alias_of site c) (cell_is c (cell.Kept site m)) alias_is

-- below a folder
below_is : (site : SiteName) (folder : List ℕ) (c : Cell) → (is_live_below site folder c ≡ true) ↔ IsBelow site folder c
below_is site folder c = (
  λ below. (
    drop (length (slash_after folder)) (text_of c),
    live_of site c (below_live site folder c below) ∙ ap (cell.Live site) (below-is folder (text_of c) (below_path site folder c below).1),
  ),
  λ at. ap (is_live_below site folder) at.1 ∙ (λ i. bytes_eq-itself site.0 i && below-of folder at.0 i),
)

pub by_folder : (site : SiteName) (source target : List ℕ) (c : Cell)
    → ((is_live_below site source c || is_live_below site target c) ≡ true) ↔ (IsBelow site source c ⊎ IsBelow site target c)
by_folder site source target c = either_test (is_live_below site source c) (is_live_below site target c) (below_is site source c) (below_is site target c)
