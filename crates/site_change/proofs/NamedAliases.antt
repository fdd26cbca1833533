-- What a command leaves lets each alias name a kept deploy.
use Rattle.std.proofs.Common.{◌≡◌, ℕ, true, false, cond, List, [], ◌∷◌, Option, Some, None, option_map, refl, sym, ap, ◌∙◌}
use Rattle.std.specs.Option.{is_some}
use Rattle.byte_view.specs.Contents.{Contents}
use Rattle.host_names.specs.declared.cells.Cell.TheVariants as cell
use Rattle.host_names.specs.declared.digests.Digest.{Digest}
use Rattle.host_names.specs.declared.names.AliasName.{AliasName}
use Rattle.host_names.specs.declared.names.SiteName.{SiteName}
use Rattle.site_state.specs.Files.{Paths}
use Rattle.site_state.specs.Named.{AliasesNamed}
use Rattle.site_state.specs.States.{State, with_cell, as_number, as_tree}
use Rattle.site_state.specs.declared.values.Draft.{Draft}
use Rattle.site_state.specs.declared.values.Value.TheVariants as value
use Rattle.site_state.proofs.Named.{named_live, named_draft, named_with_kept}
use Rattle.site_change.specs.declared.refusals.ChangeRefusal.{ChangeRefusal}
use Rattle.site_change.specs.Changes.{file_at, tree_of, needed, removal_refusal, with_served, with_published, with_listed, with_patch, published, restored}
use Rattle.site_change.proofs.Effects.{get-served}

-- files of a site that are served or no longer served are no deploys and no aliases
named_served : (site : SiteName) (tree : Paths (List ℕ)) (state : State) → AliasesNamed state → AliasesNamed (with_served site tree state)
named_served site tree state named own name m stands =
    ap (λ o. is_some (as_tree o)) (get-served site tree state (cell.Kept own m))
    ∙ named own name m (sym (ap as_number (get-served site tree state (cell.Alias own name))) ∙ stands)

named_listed : (site : SiteName) (uploads : Contents) (files : Paths (Option Digest)) (state : State) → AliasesNamed state → AliasesNamed (with_listed site uploads files state)
named_listed site uploads [] state named = named
named_listed site uploads (f ∷ files) state named =
    named_live (with_listed site uploads files state) (named_listed site uploads files state named) site f.0 (option_map value.Live (file_at uploads f.1))

named_published : (site : SiteName) (m : ℕ) (tree : Paths (List ℕ)) (state : State) → AliasesNamed state → AliasesNamed (with_published site m tree state)
named_published site m tree state named =
    let kept = with_cell state (cell.Kept site m) (Some (value.Kept tree)) in
    let with_kept : AliasesNamed kept = named_with_kept state named site m (Some (value.Kept tree)) refl in
    named_served site tree (with_cell kept (cell.Draft site m) None) (named_draft kept with_kept site m None)

pub named_publish : (site : SiteName) (m : ℕ) (uploads : Contents) (state : State) (draft : Option Draft) → AliasesNamed state → AliasesNamed (published site m uploads state draft)
named_publish site m uploads state None named = named
named_publish site m uploads state (Some draft) named =
    let files = draft.files.1 in
    elim (draft.files.0) as (λ b. AliasesNamed (cond b (with_patch site m uploads files state) (with_published site m (tree_of uploads files) state))) [
      | true ↦ named_draft (with_listed site uploads files state) (named_listed site uploads files state named) site m None
      | false ↦ named_published site m (tree_of uploads files) state named
    ]

pub named_restore : (site : SiteName) (m : ℕ) (uploads : Contents) (state : State) (kept : Option (Paths (List ℕ))) (draft : Option Draft) → AliasesNamed state
    → AliasesNamed (restored site m uploads state kept draft)
named_restore site m uploads state (Some tree) draft named = named_served site tree state named
named_restore site m uploads state None draft named = named_publish site m uploads state draft named

-- what is needed is there where nothing is refused
pub is_there : {A : Type 0} (reason : ChangeRefusal) (o : Option A) → needed reason o ≡ None → is_some o ≡ true
is_there reason None e = cc e
is_there reason (Some x) e = refl

pub no_alias : (kept : Option (Paths (List ℕ))) (alias : Option AliasName) → removal_refusal kept alias ≡ None → alias ≡ None
no_alias None alias e = cc e
no_alias (Some tree) None e = refl
no_alias (Some tree) (Some name) e = cc e
