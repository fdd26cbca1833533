-- What a publish leaves in each cell.
use Rattle.std.proofs.Common.{◌≡◌, ◌≢◌, ℕ, Bool, true, false, cond, List, [], ◌∷◌, Option, Some, None, is_some, option_map, unwrap_or, refl, sym, ap, subst, ◌∙◌}
use Rattle.std.specs.FinMap as finmap
use Rattle.std.specs.Cmp.Lexicographic.{slice_cmp}
use Rattle.std.specs.Ordering.{is_eq, nat_cmp}
use Rattle.byte_view.specs.Contents.{Contents}
use Rattle.host_names.specs.Cells.{text_of}
use Rattle.host_names.specs.declared.cells.Cell.{Cell}
use Rattle.host_names.specs.declared.cells.Cell.TheVariants as cell
use Rattle.host_names.specs.declared.digests.Digest.{Digest}
use Rattle.host_names.specs.declared.names.SiteName.{SiteName}
use Rattle.site_state.specs.Files.{Paths, at_path}
use Rattle.site_state.specs.Missing.{if_lacking, least_missing_of}
use Rattle.site_state.specs.States.{State, draft_at}
use Rattle.site_state.specs.declared.values.Draft.{Draft}
use Rattle.site_state.specs.declared.values.Value.{Value}
use Rattle.site_state.specs.declared.values.Value.TheVariants as value
use Rattle.site_change.specs.declared.commands.Command.TheVariants.{Publish}
use Rattle.site_change.specs.declared.refusals.ChangeRefusal.TheVariants.{NotComplete}
use Rattle.site_change.specs.Changes.{same_cell, file_at, tree_of, with_patch, with_published, published, publish_refusal, refusal, applied}
use Rattle.site_change.specs.Laws.{LeavesPatch, LeavesDeploy}
use Rattle.site_change.proofs.Effects.{one_cell, same_cell-itself, same_paths, bytes_eq-itself, get-published}
use Rattle.site_change.proofs.SameFiles.{no_option}
use Rattle.site_change.proofs.Listings.{none_missing, there}
use Rattle.site_change.proofs.Patches.{Listings, listed_value, get-with_patch, not_listed, unlisted}

apart : (c d : Cell) → c ≢ d → same_cell c d ≡ false
apart c d other = elim (same_cell c d) as (λ t. same_cell c d ≡ t → t ≡ false) [
  | true ↦ λ e. absurd (other (one_cell c d e))
  | false ↦ λ e. refl
] refl

module _ (uploads : Contents) where
  -- ---- what is listed is there

  not_lacking : (files : Listings) (p : List ℕ) (digest : Digest) → least_missing_of uploads files ≡ None → at_path files p ≡ Some (Some digest) → if_lacking uploads (Some digest) ≡ None
  not_lacking [] p digest complete found = cc found
  not_lacking (f ∷ files) p digest complete found =
      let parts = none_missing uploads f files complete in
      elim (is_eq (slice_cmp nat_cmp p f.0)) as (λ t. cond t (Some f.1) (at_path files p) ≡ Some (Some digest) → if_lacking uploads (Some digest) ≡ None) [
        | true ↦ λ e. ap (λ (o : Option (Option Digest)). if_lacking uploads (unwrap_or o None)) (sym e) ∙ parts.0
        | false ↦ λ e. not_lacking files p digest parts.1 e
      ] found

  uploaded : (files : Listings) (p : List ℕ) (digest : Digest) → least_missing_of uploads files ≡ None → at_path files p ≡ Some (Some digest)
      → (bytes : List ℕ) × (finmap.get uploads digest ≡ Some bytes)
  uploaded files p digest complete found =
      elim (finmap.get uploads digest) as (λ o. finmap.get uploads digest ≡ o → is_some o ≡ true → (bytes : List ℕ) × (finmap.get uploads digest ≡ Some bytes)) [
        | Some bytes ↦ λ is _. (bytes, is)
        | None ↦ λ is none. cc none
      ] refl (there uploads digest (not_lacking files p digest complete found))

  -- ---- what a tree has at a path

  in_tree : (files : Listings) (p : List ℕ) (digest : Digest) → at_path files p ≡ Some (Some digest) → at_path (tree_of uploads files) p ≡ Some (unwrap_or (finmap.get uploads digest) [])
  in_tree [] p digest found = cc found
  in_tree ((q, None) ∷ files) p digest found =
      elim (is_eq (slice_cmp nat_cmp p q)) as (λ t. cond t (Some None) (at_path files p) ≡ Some (Some digest)
      → at_path (tree_of uploads files) p ≡ Some (unwrap_or (finmap.get uploads digest) [])) [
        | true ↦ λ e. cc e
        | false ↦ λ e. in_tree files p digest e
      ] found
  in_tree ((q, Some other) ∷ files) p digest found =
      elim (is_eq (slice_cmp nat_cmp p q)) as (λ t. cond t (Some (Some other)) (at_path files p) ≡ Some (Some digest)
      → cond t (Some (unwrap_or (finmap.get uploads other) [])) (at_path (tree_of uploads files) p) ≡ Some (unwrap_or (finmap.get uploads digest) [])) [
        | true ↦ λ e. ap (λ (o : Option (Option Digest)). Some (unwrap_or (finmap.get uploads (unwrap_or (unwrap_or o None) other)) [])) e
        | false ↦ λ e. in_tree files p digest e
      ] found

  not_in_tree : (files : Listings) (p : List ℕ) → at_path files p ≡ None → at_path (tree_of uploads files) p ≡ None
  not_in_tree [] p none = refl
  not_in_tree ((q, None) ∷ files) p none =
      elim (is_eq (slice_cmp nat_cmp p q)) as (λ t. cond t (Some None) (at_path files p) ≡ None → at_path (tree_of uploads files) p ≡ None) [
        | true ↦ λ e. cc e
        | false ↦ λ e. not_in_tree files p e
      ] none
  not_in_tree ((q, Some other) ∷ files) p none =
      elim (is_eq (slice_cmp nat_cmp p q)) as (λ t. cond t (Some (Some other)) (at_path files p) ≡ None
      → cond t (Some (unwrap_or (finmap.get uploads other) [])) (at_path (tree_of uploads files) p) ≡ None) [
        | true ↦ λ e. cc e
        | false ↦ λ e. not_in_tree files p e
      ] none

  -- ---- a patch

  -- what is at a path for which this is listed
  abbrev listed_or : Option (Option Digest) → Option Value → Option Value
  listed_or (Some listed) old = option_map value.Live (file_at uploads listed)
  listed_or None old = old

module _ (site : SiteName) (m : ℕ) (uploads : Contents) (files : Listings) (state : State) where
  abbrev draft : Cell
  draft = cell.Draft site m

  value_at : (files : Listings) (p : List ℕ) (old : Option Value) → listed_value site uploads files (cell.Live site p) old ≡ listed_or uploads (at_path files p) old
  value_at [] p old = refl
  value_at (f ∷ files) p old =
      let new = option_map value.Live (file_at uploads f.1) in
      ap (λ t. cond t new (listed_value site uploads files (cell.Live site p) old)) (same_paths site p f.0)
      ∙ ap (cond (is_eq (slice_cmp nat_cmp p f.0)) new) (value_at files p old)
      ∙ (elim (is_eq (slice_cmp nat_cmp p f.0)) as (λ t. cond t new (listed_or uploads (at_path files p) old) ≡ listed_or uploads (cond t (Some f.1) (at_path files p)) old) [
        | true ↦ refl
        | false ↦ refl
      ])

  patched : least_missing_of uploads files ≡ None → LeavesPatch site m uploads files state (with_patch site m uploads files state)
  patched complete =
      let after = with_patch site m uploads files state in
      let here : (p : List ℕ) → finmap.get after (cell.Live site p) ≡ listed_or uploads (at_path files p) (finmap.get state (cell.Live site p)) = λ p.
      get-with_patch site uploads m files state (cell.Live site p)
      ∙ ap (λ t. cond t None (listed_value site uploads files (cell.Live site p) (finmap.get state (cell.Live site p)))) (apart (cell.Live site p) draft (λ e. cc e))
      ∙ value_at files p (finmap.get state (cell.Live site p)) in
      let there_is : (p : List ℕ) (o : Option (Option Digest)) → at_path files p ≡ o → finmap.get after (cell.Live site p) ≡ listed_or uploads o (finmap.get state (cell.Live site p)) = λ p o found.
      here p ∙ ap (λ l. listed_or uploads l (finmap.get state (cell.Live site p))) found in record {
        listed = λ p digest found.
            let bytes = uploaded uploads files p digest complete found in
            (bytes.0, bytes.1, there_is p (Some (Some digest)) found ∙ ap (λ (o : Option (List ℕ)). Some (value.Live (unwrap_or o []))) bytes.1);
        removed = λ p found. there_is p (Some None) found;
        unlisted = λ p found. there_is p None found;
        draft = get-with_patch site uploads m files state draft ∙ ap (λ t. cond t None (listed_value site uploads files draft (finmap.get state draft))) (same_cell-itself draft);
        others = λ c other not_draft.
            get-with_patch site uploads m files state c
            ∙ ap (λ t. cond t None (listed_value site uploads files c (finmap.get state c))) (apart c draft not_draft)
            ∙ unlisted site uploads files c (finmap.get state c) (not_listed site files c other);
      }

  -- ---- a full deploy

  abbrev tree : Paths (List ℕ)
  tree = tree_of uploads files

  abbrev kept : Cell
  kept = cell.Kept site m

  deployed : least_missing_of uploads files ≡ None → LeavesDeploy site m uploads files state (with_published site m tree state)
  deployed complete =
      let after = with_published site m tree state in
      let here : (p : List ℕ) → finmap.get after (cell.Live site p) ≡ option_map value.Live (at_path tree p) = λ p.
      get-published site m tree state (cell.Live site p) ∙ rw (bytes_eq-itself site.0) refl in
      let there_is : (p : List ℕ) (o : Option (List ℕ)) → at_path tree p ≡ o → finmap.get after (cell.Live site p) ≡ option_map value.Live o = λ p o found.
      here p ∙ ap (option_map value.Live) found in record {
        listed = λ p digest found.
            let bytes = uploaded uploads files p digest complete found in
            (bytes.0, bytes.1, there_is p (Some bytes.0) (in_tree uploads files p digest found ∙ ap (λ (o : Option (List ℕ)). Some (unwrap_or o [])) bytes.1));
        unlisted = λ p none. there_is p None (not_in_tree uploads files p none);
        kept = (
          tree,
          get-published site m tree state kept
              ∙ ap (λ t. cond t None (cond (same_cell kept kept) (Some (value.Kept tree)) (finmap.get state kept))) (apart kept draft (λ e. cc e))
              ∙ ap (λ t. cond t (Some (value.Kept tree)) (finmap.get state kept)) (same_cell-itself kept),
          λ p. sym (here p),
        );
        draft = get-published site m tree state draft
            ∙ ap (λ t. cond t None (cond (same_cell draft kept) (Some (value.Kept tree)) (finmap.get state draft))) (same_cell-itself draft);
        others = λ c other not_draft not_kept.
            get-published site m tree state c
            ∙ ap (λ t. cond t (option_map value.Live (at_path tree (text_of c))) (cond (same_cell c draft) None (cond (same_cell c kept) (Some (value.Kept tree)) (finmap.get state c)))) other
            ∙ ap (λ t. cond t None (cond (same_cell c kept) (Some (value.Kept tree)) (finmap.get state c))) (apart c draft not_draft)
            ∙ ap (λ t. cond t (Some (value.Kept tree)) (finmap.get state c)) (apart c kept not_kept);
      }

-- ---- as the command finds it

module _ (site : SiteName) (m n : ℕ) (state : State) (uploads : Contents) (draft : Draft) where
  abbrev files : Listings
  files = draft.files.1

  none_lacks : draft_at state site m ≡ Some draft → refusal (Publish site m) n state uploads ≡ None → least_missing_of uploads files ≡ None
  none_lacks found accepted = no_option NotComplete (least_missing_of uploads files) (sym (ap (publish_refusal uploads) found) ∙ accepted)

  after_is : (b : Bool) → draft_at state site m ≡ Some draft → draft.files.0 ≡ b
      → applied (Publish site m) n state uploads ≡ cond b (with_patch site m uploads files state) (with_published site m (tree_of uploads files) state)
  after_is b found is =
      ap (published site m uploads state) found ∙ ap (λ t. cond t (with_patch site m uploads files state) (with_published site m (tree_of uploads files) state)) is

  pub leaves_patch : draft_at state site m ≡ Some draft → draft.files.0 ≡ true → refusal (Publish site m) n state uploads ≡ None
      → LeavesPatch site m uploads files state (applied (Publish site m) n state uploads)
  leaves_patch found is accepted =
      let P : State → Type 0 = LeavesPatch site m uploads files state in
      subst P (sym (after_is true found is)) (patched site m uploads files state (none_lacks found accepted))

  pub leaves_deploy : draft_at state site m ≡ Some draft → draft.files.0 ≡ false → refusal (Publish site m) n state uploads ≡ None
      → LeavesDeploy site m uploads files state (applied (Publish site m) n state uploads)
  leaves_deploy found is accepted =
      let P : State → Type 0 = LeavesDeploy site m uploads files state in
      subst P (sym (after_is false found is)) (deployed site m uploads files state (none_lacks found accepted))
