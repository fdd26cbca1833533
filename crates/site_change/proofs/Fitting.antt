-- What a command writes is of its cell's kind.
use Rattle.std.proofs.Common.{◌≡◌, ℕ, true, false, cond, ◌⊎◌, inl, inr, List, Option, Some, None, option_map, refl, ap, ◌∙◌}
use Rattle.std.specs.FinMap as map
use Rattle.byte_view.specs.Contents.{Contents}
use Rattle.host_names.specs.Cells.{text_of}
use Rattle.host_names.specs.declared.names.SiteName.{SiteName}
use Rattle.host_names.specs.declared.cells.Cell.{Cell}
use Rattle.host_names.specs.declared.cells.Cell.TheVariants as cell
use Rattle.host_names.specs.declared.digests.Digest.{Digest}
use Rattle.site_state.specs.Files.{Paths, at_path}
use Rattle.site_state.specs.States.{State, with_cell, is_live_of, may_stand}
use Rattle.site_state.specs.declared.values.Draft.{Draft}
use Rattle.site_state.specs.declared.values.Value.{Value}
use Rattle.site_state.specs.declared.values.Value.TheVariants as value
use Rattle.site_change.specs.Changes.{same_cell, tree_of, with_served, with_published, with_listed, with_patch, published, restored}
use Rattle.site_change.proofs.Patches.{get-with_listed, listed_fits}
use Rattle.site_change.proofs.Effects.{one_cell, get-with_cell, live_of, get-served, get-published, published_value}

-- a cell is left as it is, or gets something of its kind
abbrev pub IsLeftOrFits : State → State → Cell → Type 0
IsLeftOrFits state after c = (map.get after c ≡ map.get state c) ⊎ (may_stand c (map.get after c) ≡ true)

pub live_fits : (site : SiteName) (p : List ℕ) (o : Option (List ℕ)) → may_stand (cell.Live site p) (option_map value.Live o) ≡ true
live_fits site p None = refl
live_fits site p (Some file) = refl

pub write_fits : (state : State) (at : Cell) (v : Option Value) → may_stand at v ≡ true → (c : Cell) → IsLeftOrFits state (with_cell state at v) c
write_fits state at v fits c =
    elim (same_cell c at) as (λ t. same_cell c at ≡ t → IsLeftOrFits state (with_cell state at v) c) [
      | true ↦ λ e. inr (ap (may_stand c) (get-with_cell state at v c ∙ ap (λ t. cond t v (map.get state c)) e) ∙ ap (λ x. may_stand x v) (one_cell c at e) ∙ fits)
      | false ↦ λ e. inl (get-with_cell state at v c ∙ ap (λ t. cond t v (map.get state c)) e)
    ] refl

-- of two writes
pub both_fit : (state mid after : State) (c : Cell) → IsLeftOrFits state mid c → IsLeftOrFits mid after c → IsLeftOrFits state after c
both_fit state mid after c first (inr fits) = inr fits
both_fit state mid after c (inl left) (inl stays) = inl (stays ∙ left)
both_fit state mid after c (inr fits) (inl stays) = inr (ap (may_stand c) stays ∙ fits)

module _ (site : SiteName) (m : ℕ) (tree : Paths (List ℕ)) (state : State) (c : Cell) where
  abbrev after : Option Value
  after = map.get (with_published site m tree state) c

  is_published : (o : Option Value) → published_value site m tree state c ≡ o → after ≡ o
  is_published o e = get-published site m tree state c ∙ e

  live_case : is_live_of site c ≡ true → may_stand c after ≡ true
  live_case live =
      ap (may_stand c) (is_published (option_map value.Live (at_path tree (text_of c))) (rw live refl))
      ∙ ap (λ x. may_stand x (option_map value.Live (at_path tree (text_of c)))) (live_of site c live) ∙ live_fits site (text_of c) (at_path tree (text_of c))

  draft_case : is_live_of site c ≡ false → same_cell c (cell.Draft site m) ≡ true → may_stand c after ≡ true
  draft_case other at = ap (may_stand c) (is_published None (rw (other, at) refl))

  kept_case : is_live_of site c ≡ false → same_cell c (cell.Draft site m) ≡ false → same_cell c (cell.Kept site m) ≡ true → may_stand c after ≡ true
  kept_case other not_draft at =
      ap (may_stand c) (is_published (Some (value.Kept tree)) (rw (other, not_draft, at) refl)) ∙ ap (λ x. may_stand x (Some (value.Kept tree))) (one_cell c (cell.Kept site m) at)

  left_case : is_live_of site c ≡ false → same_cell c (cell.Draft site m) ≡ false → same_cell c (cell.Kept site m) ≡ false → after ≡ map.get state c
  left_case other not_draft not_kept = is_published (map.get state c) (rw (other, not_draft, not_kept) refl)

  published_fits : IsLeftOrFits state (with_published site m tree state) c
  published_fits =
      elim (is_live_of site c) as (λ t. is_live_of site c ≡ t → IsLeftOrFits state (with_published site m tree state) c) [
        | true ↦ λ live. inr (live_case live)
        | false ↦ λ other. elim (same_cell c (cell.Draft site m)) as (λ t. same_cell c (cell.Draft site m) ≡ t → IsLeftOrFits state (with_published site m tree state) c) [
          | true ↦ λ at. inr (draft_case other at)
          | false ↦ λ not_draft. elim (same_cell c (cell.Kept site m)) as (λ t. same_cell c (cell.Kept site m) ≡ t → IsLeftOrFits state (with_published site m tree state) c) [
            | true ↦ λ at. inr (kept_case other not_draft at)
            | false ↦ λ not_kept. inl (left_case other not_draft not_kept)
          ] refl
        ] refl
      ] refl

listed_fit : (site : SiteName) (uploads : Contents) (files : Paths (Option Digest)) (state : State) (c : Cell) → IsLeftOrFits state (with_listed site uploads files state) c
listed_fit site uploads files state c = elim (listed_fits site uploads files c (map.get state c)) [
  | inl left ↦ inl (get-with_listed site uploads files state c ∙ left)
  | inr fits ↦ inr (ap (may_stand c) (get-with_listed site uploads files state c) ∙ fits)
]

patch_fits : (site : SiteName) (m : ℕ) (uploads : Contents) (files : Paths (Option Digest)) (state : State) (c : Cell) → IsLeftOrFits state (with_patch site m uploads files state) c
patch_fits site m uploads files state c =
    let served = with_listed site uploads files state in
    both_fit state served (with_patch site m uploads files state) c (listed_fit site uploads files state c) (write_fits served (cell.Draft site m) None refl c)

pub publish_fits : (site : SiteName) (m : ℕ) (uploads : Contents) (state : State) (draft : Option Draft) (c : Cell) → IsLeftOrFits state (published site m uploads state draft) c
publish_fits site m uploads state None c = inl refl
publish_fits site m uploads state (Some draft) c =
    let files = draft.files.1 in
    elim (draft.files.0) as (λ b. IsLeftOrFits state (cond b (with_patch site m uploads files state) (with_published site m (tree_of uploads files) state)) c) [
      | true ↦ patch_fits site m uploads files state c
      | false ↦ published_fits site m (tree_of uploads files) state c
    ]

served_fits : (site : SiteName) (tree : Paths (List ℕ)) (state : State) (c : Cell) → IsLeftOrFits state (with_served site tree state) c
served_fits site tree state c =
    elim (is_live_of site c) as (λ t. is_live_of site c ≡ t → IsLeftOrFits state (with_served site tree state) c) [
      | true ↦ λ live. inr (
          ap (may_stand c) (get-served site tree state c ∙ ap (λ t. cond t (option_map value.Live (at_path tree (text_of c))) (map.get state c)) live)
          ∙ ap (λ x. may_stand x (option_map value.Live (at_path tree (text_of c)))) (live_of site c live) ∙ live_fits site (text_of c) (at_path tree (text_of c)))
      | false ↦ λ other. inl (get-served site tree state c ∙ ap (λ t. cond t (option_map value.Live (at_path tree (text_of c))) (map.get state c)) other)
    ] refl

pub restore_fits : (site : SiteName) (m : ℕ) (uploads : Contents) (state : State) (kept : Option (Paths (List ℕ))) (draft : Option Draft) (c : Cell)
    → IsLeftOrFits state (restored site m uploads state kept draft) c
restore_fits site m uploads state (Some tree) draft c = served_fits site tree state c
restore_fits site m uploads state None draft c = publish_fits site m uploads state draft c
