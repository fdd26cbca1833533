-- No deploy is open and kept at once.
use Rattle.std.proofs.Common.{◌≡◌, ◌⊎◌, inl, inr, ℕ, Bool, true, false, cond, List, [], ◌∷◌, Option, Some, None, is_some, refl, sym, ap, ◌∙◌, option_map}
use Rattle.std.specs.FinMap as map
use Rattle.byte_view.specs.Contents.{Contents}
use Rattle.host_names.specs.declared.cells.Cell.{Cell}
use Rattle.host_names.specs.declared.cells.Cell.TheVariants as cell
use Rattle.host_names.specs.declared.digests.Digest.{Digest}
use Rattle.host_names.specs.declared.names.SiteName.{SiteName}
use Rattle.site_state.specs.Files.{Paths}
use Rattle.site_state.specs.States.{State, entries_below, with_cell, draft_at, kept_at}
use Rattle.site_state.specs.declared.values.Draft.{Draft}
use Rattle.site_state.specs.declared.values.Value.{Value}
use Rattle.site_state.specs.declared.values.Value.TheVariants as value
use Rattle.site_change.specs.declared.commands.Command.{Command}
use Rattle.site_change.specs.declared.commands.Command.TheVariants.{Open, Publish, Cancel, Remove, Rename, RenameFolder, MoveAlias, RemoveAlias, Restore, RemoveDeploy}
use Rattle.site_change.specs.Changes.{applied, same_cell, file_at, tree_of, with_served, with_published, with_listed, with_patch, published, restored, folder_renamed}
use Rattle.site_change.proofs.Effects.{one_cell, same_cell-itself, get-with_cell, get-served}
use Rattle.site_change.proofs.FolderMoves.{get-renamed}
use Rattle.change_log.specs.Bases.{deploy_of}
use Rattle.site_change.proofs.Deploys.{IsThere}

abbrev pub NeverBoth : State → Type 0
NeverBoth state = (site : SiteName) (k : ℕ) → IsThere state (cell.Draft site k) → IsThere state (cell.Kept site k) → ⊥

-- each deploy's cell that has something had something before
abbrev FewerDeploys : State → State → Type 0
FewerDeploys before after = (c : Cell) (k : ℕ) → deploy_of c ≡ Some k → IsThere after c → IsThere before c

fewer_both : (before after : State) → FewerDeploys before after → NeverBoth before → NeverBoth after
fewer_both before after fewer never site k draft kept =
    never site k (fewer (cell.Draft site k) k refl draft) (fewer (cell.Kept site k) k refl kept)

fewer_then : (a b c : State) → FewerDeploys a b → FewerDeploys b c → FewerDeploys a c
fewer_then a b c first second at k number there = first at k number (second at k number there)

-- ---- one write

there_written : (state : State) (at : Cell) (v : Option Value) (c : Cell) → IsThere (with_cell state at v) c → IsThere state c ⊎ ((c ≡ at) × (is_some v ≡ true))
there_written state at v c there =
    elim (same_cell c at) as (λ t. same_cell c at ≡ t → is_some (cond t v (map.get state c)) ≡ true → IsThere state c ⊎ ((c ≡ at) × (is_some v ≡ true))) [
      | true ↦ λ e h. inr (one_cell c at e, h)
      | false ↦ λ e h. inl h
    ] refl (sym (ap is_some (get-with_cell state at v c)) ∙ there)

there_removed : (state : State) (at : Cell) (c : Cell) → IsThere (with_cell state at None) c → IsThere state c × (same_cell c at ≡ false)
there_removed state at c there =
    elim (same_cell c at) as (λ t. same_cell c at ≡ t → is_some (cond t None (map.get state c)) ≡ true → IsThere state c × (same_cell c at ≡ false)) [
      | true ↦ λ e h. cc h
      | false ↦ λ e h. (h, e)
    ] refl (sym (ap is_some (get-with_cell state at None c)) ∙ there)

fewer_removed : (state : State) (at : Cell) → FewerDeploys state (with_cell state at None)
fewer_removed state at c k number there = (there_removed state at c there).0

fewer_written : (state : State) (at : Cell) (v : Option Value) → deploy_of at ≡ None → FewerDeploys state (with_cell state at v)
fewer_written state at v none c k number there =
    elim (there_written state at v c there) [ inl was ↦ was | inr new ↦ cc (sym number ∙ ap deploy_of new.0 ∙ none) ]

-- ---- many writes

fewer_served : (site : SiteName) (tree : Paths (List ℕ)) (state : State) → FewerDeploys state (with_served site tree state)
fewer_served site tree state (cell.Draft other m) k number there = sym (ap is_some (get-served site tree state (cell.Draft other m))) ∙ there
fewer_served site tree state (cell.Kept other m) k number there = sym (ap is_some (get-served site tree state (cell.Kept other m))) ∙ there
fewer_served site tree state (cell.Live other p) k number there = cc number
fewer_served site tree state (cell.Alias other p) k number there = cc number

fewer_listed : (site : SiteName) (uploads : Contents) (files : Paths (Option Digest)) (state : State) → FewerDeploys state (with_listed site uploads files state)
fewer_listed site uploads [] state c k number there = there
fewer_listed site uploads (f ∷ files) state c k number there =
    fewer_listed site uploads files state c k number
    (fewer_written (with_listed site uploads files state) (cell.Live site f.0) (option_map value.Live (file_at uploads f.1)) refl c k number there)

fewer_renamed : (site : SiteName) (source target : List ℕ) (files : List (Cell × Value)) (state : State) → FewerDeploys state (folder_renamed site source target state files)
fewer_renamed site source target files state (cell.Draft other m) k number there = sym (ap is_some (get-renamed site source target files state (cell.Draft other m))) ∙ there
fewer_renamed site source target files state (cell.Kept other m) k number there = sym (ap is_some (get-renamed site source target files state (cell.Kept other m))) ∙ there
fewer_renamed site source target files state (cell.Live other p) k number there = cc number
fewer_renamed site source target files state (cell.Alias other p) k number there = cc number

-- a deploy that is kept is open no more
kept_alone : (site : SiteName) (m : ℕ) (tree : Paths (List ℕ)) (state : State) → NeverBoth state → NeverBoth (with_published site m tree state)
kept_alone site m tree state never =
    let kept = with_cell state (cell.Kept site m) (Some (value.Kept tree)) in
    let gone = with_cell kept (cell.Draft site m) None in
    fewer_both gone (with_served site tree gone) (fewer_served site tree gone) (λ other k draft there.
    let draft_was = there_removed kept (cell.Draft site m) (cell.Draft other k) draft in
    let still = (there_removed kept (cell.Draft site m) (cell.Kept other k) there).0 in
    elim (there_written state (cell.Kept site m) (Some (value.Kept tree)) (cell.Draft other k) draft_was.0) [
      | inl was ↦ elim (there_written state (cell.Kept site m) (Some (value.Kept tree)) (cell.Kept other k) still) [
        | inl before ↦ never other k was before
        | inr new ↦
            let one : other ≡ site = cc new.0 in
            let number : k ≡ m = cc new.0 in
            let here : same_cell (cell.Draft other k) (cell.Draft site m) ≡ true =
            ap (λ (s : SiteName). same_cell (cell.Draft s k) (cell.Draft site m)) one
            ∙ ap (λ (n : ℕ). same_cell (cell.Draft site n) (cell.Draft site m)) number ∙ same_cell-itself (cell.Draft site m) in
            cc (sym here ∙ draft_was.1)
      ]
      | inr new ↦ cc new.0
    ])

never_published : (site : SiteName) (m : ℕ) (uploads : Contents) (state : State) (draft : Option Draft) → NeverBoth state → NeverBoth (published site m uploads state draft)
never_published site m uploads state None never = never
never_published site m uploads state (Some draft) never =
    let files = draft.files.1 in
    elim (draft.files.0) as (λ t. NeverBoth (cond t (with_patch site m uploads files state) (with_published site m (tree_of uploads files) state))) [
      | true ↦
          let listed = with_listed site uploads files state in
          fewer_both state (with_patch site m uploads files state)
          (fewer_then state listed (with_patch site m uploads files state) (fewer_listed site uploads files state) (fewer_removed listed (cell.Draft site m))) never
      | false ↦ kept_alone site m (tree_of uploads files) state never
    ]

never_restored : (site : SiteName) (m : ℕ) (uploads : Contents) (state : State) (kept : Option (Paths (List ℕ))) (draft : Option Draft) → NeverBoth state
    → NeverBoth (restored site m uploads state kept draft)
never_restored site m uploads state (Some tree) draft never = fewer_both state (with_served site tree state) (fewer_served site tree state) never
never_restored site m uploads state None draft never = never_published site m uploads state draft never

never_opened : (site : SiteName) (n : ℕ) (v : Value) (state : State) → NeverBoth state → ((other : SiteName) → IsThere state (cell.Kept other n) → ⊥)
    → NeverBoth (with_cell state (cell.Draft site n) (Some v))
never_opened site n v state never new other k draft kept =
    let still : IsThere state (cell.Kept other k) =
    elim (there_written state (cell.Draft site n) (Some v) (cell.Kept other k) kept) [ inl was ↦ was | inr is ↦ cc is.0 ] in
    elim (there_written state (cell.Draft site n) (Some v) (cell.Draft other k) draft) [
      | inl was ↦ never other k was still
      | inr is ↦
          let number : k ≡ n = cc is.0 in
          new other (sym (ap (λ (m : ℕ). is_some (map.get state (cell.Kept other m))) number) ∙ still)
    ]

-- ---- commands

-- A command under a new number keeps it so.
pub never_both : (command : Command) (n : ℕ) (state : State) (uploads : Contents) → NeverBoth state → ((site : SiteName) → IsThere state (cell.Kept site n) → ⊥)
    → NeverBoth (applied command n state uploads)
never_both (Open site files auto) n state uploads never new = never_opened site n _ state never new
never_both (Publish site m) n state uploads never new = never_published site m uploads state (draft_at state site m) never
never_both (Cancel site m) n state uploads never new = fewer_both state _ (fewer_removed state (cell.Draft site m)) never
never_both (Remove site path) n state uploads never new = fewer_both state _ (fewer_removed state (cell.Live site path)) never
never_both (Rename site source target) n state uploads never new =
    let mid = with_cell state (cell.Live site source) None in
    fewer_both state _ (fewer_then state mid _ (fewer_removed state (cell.Live site source)) (fewer_written mid (cell.Live site target) _ refl)) never
never_both (RenameFolder site source target) n state uploads never new =
    fewer_both state _ (fewer_renamed site source target (entries_below state site source) state) never
never_both (MoveAlias site name m) n state uploads never new = fewer_both state _ (fewer_written state (cell.Alias site name) (Some (value.Alias m)) refl) never
never_both (RemoveAlias site name) n state uploads never new = fewer_both state _ (fewer_removed state (cell.Alias site name)) never
never_both (Restore site m) n state uploads never new = never_restored site m uploads state (kept_at state site m) (draft_at state site m) never
never_both (RemoveDeploy site m) n state uploads never new = fewer_both state _ (fewer_removed state (cell.Kept site m)) never
