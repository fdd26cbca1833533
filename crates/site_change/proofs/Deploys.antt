-- Which deploys are open or kept after a command, and where they come from.
use Rattle.std.proofs.Common.{◌≡◌, ◌⊎◌, inl, inr, ℕ, Bool, true, false, cond, List, [], ◌∷◌, Option, Some, None, is_some, refl, sym, ap, ◌∙◌, option_map}
use Rattle.std.specs.FinMap as map
use Rattle.byte_view.specs.Contents.{Contents}
use Rattle.host_names.specs.declared.cells.Cell.{Cell}
use Rattle.host_names.specs.declared.cells.Cell.TheVariants as cell
use Rattle.host_names.specs.declared.digests.Digest.{Digest}
use Rattle.host_names.specs.declared.names.AliasName.{AliasName}
use Rattle.host_names.specs.declared.names.SiteName.{SiteName}
use Rattle.site_state.specs.Files.{Paths}
use Rattle.site_state.specs.Listings.{Listed}
use Rattle.site_state.specs.States.{State, with_cell, draft_at, as_draft}
use Rattle.site_state.specs.declared.values.Draft.{Draft}
use Rattle.site_state.specs.declared.values.Value.{Value}
use Rattle.site_state.specs.declared.values.Value.TheVariants as value
use Rattle.site_change.specs.declared.commands.Command.{Command}
use Rattle.site_change.specs.declared.commands.Command.TheVariants.{Open}
use Rattle.site_change.specs.Changes.{same_cell, file_at, tree_of, with_served, with_published, with_listed, with_patch, published, restored}
use Rattle.site_change.proofs.Effects.{one_cell, get-with_cell, get-served}

abbrev pub IsThere : State → Cell → Type 0
IsThere state c = is_some (map.get state c) ≡ true

-- a deploy of that number is open, or kept
abbrev pub IsDeploy : State → SiteName → ℕ → Type 0
IsDeploy state site m = IsThere state (cell.Draft site m) ⊎ IsThere state (cell.Kept site m)

-- the command opens a deploy of the site
abbrev pub IsOpening : Command → SiteName → Type 0
IsOpening command site = (files : Listed) × (auto : Bool) × (command ≡ Open site files auto)

-- each deploy after the command was one before it, or the command opens it under its own number
abbrev pub DeploysFrom : Command → ℕ → State → State → Type 0
DeploysFrom command n before after =
    (site : SiteName) (m : ℕ) → IsDeploy after site m → IsDeploy before site m ⊎ ((m ≡ n) × IsOpening command site)

-- each deploy was one before
abbrev pub NoneNew : State → State → Type 0
NoneNew before after = (site : SiteName) (m : ℕ) → IsDeploy after site m → IsDeploy before site m

pub without_new : (command : Command) (n : ℕ) (before after : State) → NoneNew before after → DeploysFrom command n before after
without_new command n before after none site m there = inl (none site m there)

-- ---- one write

-- what is there after a write was there, or was written
after_write : (state : State) (at : Cell) (v : Option Value) (c : Cell) → IsThere (with_cell state at v) c → IsThere state c ⊎ ((c ≡ at) × (is_some v ≡ true))
after_write state at v c there =
    elim (same_cell c at) as (λ t. same_cell c at ≡ t → is_some (cond t v (map.get state c)) ≡ true → IsThere state c ⊎ ((c ≡ at) × (is_some v ≡ true))) [
      | true ↦ λ e h. inr (one_cell c at e, h)
      | false ↦ λ e h. inl h
    ] refl (sym (ap is_some (get-with_cell state at v c)) ∙ there)

-- a write of something else, or of nothing
none_by_write : (state : State) (at : Cell) (v : Option Value) → ((site : SiteName) (m : ℕ) → cell.Draft site m ≡ at → is_some v ≡ true → ⊥)
    → ((site : SiteName) (m : ℕ) → cell.Kept site m ≡ at → is_some v ≡ true → ⊥) → NoneNew state (with_cell state at v)
none_by_write state at v no_draft no_kept site m (inl there) =
    elim (after_write state at v (cell.Draft site m) there) [ inl was ↦ inl was | inr new ↦ absurd (no_draft site m new.0 new.1) ]
none_by_write state at v no_draft no_kept site m (inr there) =
    elim (after_write state at v (cell.Kept site m) there) [ inl was ↦ inr was | inr new ↦ absurd (no_kept site m new.0 new.1) ]

pub none_by_removal : (state : State) (at : Cell) → NoneNew state (with_cell state at None)
none_by_removal state at = none_by_write state at None (λ site m is some. cc some) (λ site m is some. cc some)

pub none_by_live : (state : State) (site : SiteName) (path : List ℕ) (v : Option Value) → NoneNew state (with_cell state (cell.Live site path) v)
none_by_live state site path v = none_by_write state (cell.Live site path) v (λ other m is some. cc is) (λ other m is some. cc is)

pub none_by_alias : (state : State) (site : SiteName) (name : AliasName) (v : Option Value) → NoneNew state (with_cell state (cell.Alias site name) v)
none_by_alias state site name v = none_by_write state (cell.Alias site name) v (λ other m is some. cc is) (λ other m is some. cc is)

-- a deploy is kept that was open
none_by_keeping : (state : State) (site : SiteName) (m : ℕ) (v : Value) → IsThere state (cell.Draft site m) → NoneNew state (with_cell state (cell.Kept site m) (Some v))
none_by_keeping state site m v draft other k (inl there) =
    elim (after_write state (cell.Kept site m) (Some v) (cell.Draft other k) there) [ inl was ↦ inl was | inr new ↦ cc new.0 ]
none_by_keeping state site m v draft other k (inr there) =
    elim (after_write state (cell.Kept site m) (Some v) (cell.Kept other k) there) [
      | inl was ↦ inr was
      | inr new ↦
          let one : other ≡ site = cc new.0 in
          let number : k ≡ m = cc new.0 in
          inl (rw (one, number) draft)
    ]

-- a draft that is written under the command's number
pub from_opening : (state : State) (site : SiteName) (n : ℕ) (files : Listed) (auto : Bool) (v : Value)
    → DeploysFrom (Open site files auto) n state (with_cell state (cell.Draft site n) (Some v))
from_opening state site n files auto v other m (inl there) =
    elim (after_write state (cell.Draft site n) (Some v) (cell.Draft other m) there) [
      | inl was ↦ inl (inl was)
      | inr new ↦
          let one : site ≡ other = cc new.0 in
          let number : m ≡ n = cc new.0 in
          inr (number, (files, auto, ap (λ s. Open s files auto) one))
    ]
from_opening state site n files auto v other m (inr there) =
    elim (after_write state (cell.Draft site n) (Some v) (cell.Kept other m) there) [ inl was ↦ inl (inr was) | inr new ↦ cc new.0 ]

-- ---- many writes

pub none_by_serving : (site : SiteName) (tree : Paths (List ℕ)) (state : State) → NoneNew state (with_served site tree state)
none_by_serving site tree state other m (inl there) = inl (sym (ap is_some (get-served site tree state (cell.Draft other m))) ∙ there)
none_by_serving site tree state other m (inr there) = inr (sym (ap is_some (get-served site tree state (cell.Kept other m))) ∙ there)

none_by_listing : (site : SiteName) (uploads : Contents) (files : Paths (Option Digest)) (state : State) → NoneNew state (with_listed site uploads files state)
none_by_listing site uploads [] state other m there = there
none_by_listing site uploads (f ∷ files) state other m there =
    none_by_listing site uploads files state other m
    (none_by_live (with_listed site uploads files state) site f.0 (option_map value.Live (file_at uploads f.1)) other m there)

none_by_full : (site : SiteName) (m : ℕ) (tree : Paths (List ℕ)) (state : State) → IsThere state (cell.Draft site m) → NoneNew state (with_published site m tree state)
none_by_full site m tree state draft other k there =
    let kept = with_cell state (cell.Kept site m) (Some (value.Kept tree)) in
    let gone = with_cell kept (cell.Draft site m) None in
    none_by_keeping state site m (value.Kept tree) draft other k
    (none_by_removal kept (cell.Draft site m) other k (none_by_serving site tree gone other k there))

none_by_patch : (site : SiteName) (m : ℕ) (uploads : Contents) (files : Paths (Option Digest)) (state : State) → NoneNew state (with_patch site m uploads files state)
none_by_patch site m uploads files state other k there =
    none_by_listing site uploads files state other k (none_by_removal (with_listed site uploads files state) (cell.Draft site m) other k there)

pub draft_there : (o : Option Value) (draft : Draft) → as_draft o ≡ Some draft → is_some o ≡ true
draft_there None draft e = cc e
draft_there (Some v) draft e = refl

none_by_publish : (site : SiteName) (m : ℕ) (uploads : Contents) (state : State) (o : Option Draft) → draft_at state site m ≡ o → NoneNew state (published site m uploads state o)
none_by_publish site m uploads state None is = λ other k there. there
none_by_publish site m uploads state (Some draft) is =
    let files = draft.files.1 in
    elim (draft.files.0) as (λ t. NoneNew state (cond t (with_patch site m uploads files state) (with_published site m (tree_of uploads files) state))) [
      | true ↦ none_by_patch site m uploads files state
      | false ↦ none_by_full site m (tree_of uploads files) state (draft_there (map.get state (cell.Draft site m)) draft is)
    ]

pub none_by_publishing : (site : SiteName) (m : ℕ) (uploads : Contents) (state : State) → NoneNew state (published site m uploads state (draft_at state site m))
none_by_publishing site m uploads state = none_by_publish site m uploads state (draft_at state site m) refl

pub none_by_restoring : (site : SiteName) (m : ℕ) (uploads : Contents) (state : State) (kept : Option (Paths (List ℕ)))
    → NoneNew state (restored site m uploads state kept (draft_at state site m))
none_by_restoring site m uploads state (Some tree) = none_by_serving site tree state
none_by_restoring site m uploads state None = none_by_publishing site m uploads state
