-- What a command leaves has no file that was not uploaded.
use Rattle.std.proofs.Common.{◌≡◌, ℕ, Bool, true, false, not, cond, List, [], ◌∷◌, Option, Some, None, option_map, is_some, unwrap_or, refl, sym, ap, subst, ◌∙◌}
use Rattle.std.specs.FinMap as map
use Rattle.std.specs.List.{cons_option}
use Rattle.host_names.specs.Digests.{digest_of}
use Rattle.byte_view.specs.Contents.{Contents, AreDigested}
use Rattle.host_names.specs.declared.cells.Cell.{Cell}
use Rattle.host_names.specs.declared.cells.Cell.TheVariants as cell
use Rattle.host_names.specs.declared.digests.Digest.{Digest}
use Rattle.host_names.specs.declared.names.SiteName.{SiteName}
use Rattle.site_state.specs.Files.{Paths}
use Rattle.site_state.specs.Missing.{if_lacking, least_missing_of}
use Rattle.site_state.specs.States.{State, with_cell, as_file, as_tree, is_live_of}
use Rattle.site_state.specs.declared.values.Draft.{Draft}
use Rattle.site_state.specs.declared.values.Value.{Value}
use Rattle.site_state.specs.declared.values.Value.TheVariants as value
use Rattle.site_change.specs.declared.refusals.ChangeRefusal.TheVariants.{NotComplete}
use Rattle.site_change.specs.Changes.{same_cell, publish_refusal, restore_refusal, file_at, tree_of, without_live, with_live, with_served, with_published, with_listed, with_patch, published, restored}
use Rattle.site_change.specs.Uploaded.{IsUploaded, IsUploadedTree, HoldsUploaded, AreUploaded}
use Rattle.site_change.proofs.Effects.{get-with_cell, get-without_live}
use Rattle.site_change.proofs.Listings.{none_missing, there}
use Rattle.site_change.proofs.SameFiles.{no_option}

-- two uploaded files of one digest are one
pub one_file : (uploads : Contents) (a b : List ℕ) → IsUploaded uploads a → IsUploaded uploads b → digest_of a ≡ digest_of b → a ≡ b
one_file uploads a b at_a at_b same =
    ap (λ (o : Option (List ℕ)). unwrap_or o a) (sym at_a ∙ ap (map.get uploads) same ∙ at_b)

module _ (uploads : Contents) where
  -- ---- files that are listed

  abbrev pub HoldsFile : Option (List ℕ) → Type 0
  HoldsFile file = HoldsUploaded uploads (option_map value.Live file)

  -- what is found under a digest is that digest's own file
  found_uploaded : AreDigested uploads → (digest : Digest) (file : List ℕ) → map.get uploads digest ≡ Some file → IsUploaded uploads file
  found_uploaded digested digest file found =
      let own : digest_of file ≡ digest = ap (λ (d : List ℕ). record { 0 = d }) (sym (digested digest file found)) in
      ap (map.get uploads) own ∙ found

  pub file_uploaded : AreDigested uploads → (listed : Option Digest) → if_lacking uploads listed ≡ None → HoldsFile (file_at uploads listed)
  file_uploaded digested None e = tt
  file_uploaded digested (Some digest) e =
      elim (map.get uploads digest) as (λ o. map.get uploads digest ≡ o → is_some o ≡ true → IsUploaded uploads (unwrap_or o [])) [
        | Some file ↦ λ found _. found_uploaded digested digest file found
        | None ↦ λ found lacking. cc lacking
      ] refl (there uploads digest e)

  tree_with : (path : List ℕ) (file : Option (List ℕ)) (tree : Paths (List ℕ)) → HoldsFile file → IsUploadedTree uploads tree
      → IsUploadedTree uploads (cons_option (option_map (λ bytes. (path, bytes)) file) tree)
  tree_with path None tree one rest = rest
  tree_with path (Some file) tree one rest = (one, rest)

  pub tree_uploaded : AreDigested uploads → (files : Paths (Option Digest)) → least_missing_of uploads files ≡ None → IsUploadedTree uploads (tree_of uploads files)
  tree_uploaded digested [] e = tt
  tree_uploaded digested (f ∷ files) e =
      let parts = none_missing uploads f files e in
      tree_with f.0 (file_at uploads f.1) (tree_of uploads files) (file_uploaded digested f.1 parts.0) (tree_uploaded digested files parts.1)

  -- ---- what is in a cell

  abbrev pub HoldsTree : Option (Paths (List ℕ)) → Type 0
  HoldsTree None = Unit {0}
  HoldsTree (Some tree) = IsUploadedTree uploads tree

  pub served_uploaded : (v : Option Value) → HoldsUploaded uploads v → HoldsFile (as_file v)
  served_uploaded (Some (value.Live file)) h = h
  served_uploaded (Some (value.Kept tree)) h = tt
  served_uploaded (Some (value.Alias n)) h = tt
  served_uploaded (Some (value.Draft draft)) h = tt
  served_uploaded None h = tt

  pub kept_uploaded : (v : Option Value) → HoldsUploaded uploads v → HoldsTree (as_tree v)
  kept_uploaded (Some (value.Kept tree)) h = h
  kept_uploaded (Some (value.Live file)) h = tt
  kept_uploaded (Some (value.Alias n)) h = tt
  kept_uploaded (Some (value.Draft draft)) h = tt
  kept_uploaded None h = tt

  pub either : (t : Bool) (v w : Option Value) → HoldsUploaded uploads v → HoldsUploaded uploads w → HoldsUploaded uploads (cond t v w)
  either true v w one other = one
  either false v w one other = other

  -- ---- what is written

  pub write_uploaded : (state : State) (at : Cell) (v : Option Value) → HoldsUploaded uploads v → AreUploaded uploads state → AreUploaded uploads (with_cell state at v)
  write_uploaded state at v one all c = subst (HoldsUploaded uploads) (sym (get-with_cell state at v c)) (either (same_cell c at) v (map.get state c) one (all c))

  pub serve_uploaded : (site : SiteName) (tree : Paths (List ℕ)) (state : State) → IsUploadedTree uploads tree → AreUploaded uploads state
      → AreUploaded uploads (with_live site tree state)
  serve_uploaded site [] state files all = all
  serve_uploaded site (f ∷ tree) state files all =
      write_uploaded (with_live site tree state) (cell.Live site f.0) (Some (value.Live f.1)) files.0 (serve_uploaded site tree state files.1 all)

  with_served_uploaded : (site : SiteName) (tree : Paths (List ℕ)) (state : State) → IsUploadedTree uploads tree → AreUploaded uploads state
      → AreUploaded uploads (with_served site tree state)
  with_served_uploaded site tree state files all = serve_uploaded site tree (without_live site state) files (λ c.
      subst (HoldsUploaded uploads) (sym (get-without_live site state c)) (either (not (is_live_of site c)) (map.get state c) None (all c) tt))

  with_published_uploaded : (site : SiteName) (m : ℕ) (tree : Paths (List ℕ)) (state : State) → IsUploadedTree uploads tree → AreUploaded uploads state
      → AreUploaded uploads (with_published site m tree state)
  with_published_uploaded site m tree state files all =
      let kept = with_cell state (cell.Kept site m) (Some (value.Kept tree)) in
      with_served_uploaded site tree (with_cell kept (cell.Draft site m) None) files
      (write_uploaded kept (cell.Draft site m) None tt (write_uploaded state (cell.Kept site m) (Some (value.Kept tree)) files all))

  with_listed_uploaded : AreDigested uploads → (site : SiteName) (files : Paths (Option Digest)) (state : State) → least_missing_of uploads files ≡ None
      → AreUploaded uploads state → AreUploaded uploads (with_listed site uploads files state)
  with_listed_uploaded digested site [] state e all = all
  with_listed_uploaded digested site (f ∷ files) state e all =
      let parts = none_missing uploads f files e in
      write_uploaded (with_listed site uploads files state) (cell.Live site f.0) (option_map value.Live (file_at uploads f.1)) (file_uploaded digested f.1 parts.0)
      (with_listed_uploaded digested site files state parts.1 all)

  pub publish_uploaded : AreDigested uploads → (site : SiteName) (m : ℕ) (state : State) (draft : Option Draft) → publish_refusal uploads draft ≡ None
      → AreUploaded uploads state → AreUploaded uploads (published site m uploads state draft)
  publish_uploaded digested site m state None e all = all
  publish_uploaded digested site m state (Some draft) e all =
      let files = draft.files.1 in
      let complete = no_option NotComplete (least_missing_of uploads files) e in
      elim (draft.files.0) as (λ b. AreUploaded uploads (cond b (with_patch site m uploads files state) (with_published site m (tree_of uploads files) state))) [
        | true ↦ write_uploaded (with_listed site uploads files state) (cell.Draft site m) None tt (with_listed_uploaded digested site files state complete all)
        | false ↦ with_published_uploaded site m (tree_of uploads files) state (tree_uploaded digested files complete) all
      ]

  pub restore_uploaded : AreDigested uploads → (site : SiteName) (m : ℕ) (state : State) (kept : Option (Paths (List ℕ))) (draft : Option Draft) → HoldsTree kept
      → restore_refusal uploads kept draft ≡ None → AreUploaded uploads state → AreUploaded uploads (restored site m uploads state kept draft)
  restore_uploaded digested site m state (Some tree) draft files e all = with_served_uploaded site tree state files all
  restore_uploaded digested site m state None None files e all = all
  restore_uploaded digested site m state None (Some draft) files e all = publish_uploaded digested site m state (Some draft) e all
