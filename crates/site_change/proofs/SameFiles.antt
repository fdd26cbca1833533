-- What is published stays the same as more is uploaded.
use Rattle.std.proofs.Common.{◌≡◌, ℕ, true, false, cond, List, [], ◌∷◌, Option, Some, None, option_map, is_some, unwrap_or, refl, sym, ap, ◌∙◌}
use Rattle.std.specs.FinMap as map
use Rattle.std.specs.List.{AllByRecursion, cons_option}
use Rattle.byte_view.specs.Contents.{Contents}
use Rattle.host_names.specs.declared.names.SiteName.{SiteName}
use Rattle.host_names.specs.declared.cells.Cell.TheVariants as cell
use Rattle.host_names.specs.declared.digests.Digest.{Digest}
use Rattle.site_state.specs.Files.{Paths}
use Rattle.site_state.specs.Missing.{if_lacking, lesser, least_missing_of}
use Rattle.site_state.specs.States.{State, with_cell}
use Rattle.site_state.specs.declared.values.Value.TheVariants as value
use Rattle.site_state.specs.declared.values.Draft.{Draft}
use Rattle.site_state.proofs.LackingDigests.{least_missing-cons}
use Rattle.site_change.specs.declared.refusals.ChangeRefusal.TheVariants.{NotComplete}
use Rattle.site_change.specs.Changes.{publish_refusal, restore_refusal, file_at, tree_of, with_published, with_listed, with_patch, published, restored, IsWithin}
use Rattle.site_change.proofs.Listings.{none_missing, there}

-- nothing is missing, so each file is what it was
pub record SameFiles (uploads more : Contents) (files : Paths (Option Digest)) : Type 0 where
  pub complete : least_missing_of more files ≡ None
  pub each : AllByRecursion (λ f. file_at more f.1 ≡ file_at uploads f.1) files

-- what is listed and not lacking is there, and stays
stays_there : (uploads more : Contents) (listed : Option Digest) → IsWithin uploads more → if_lacking uploads listed ≡ None
    → (if_lacking more listed ≡ None) × (file_at more listed ≡ file_at uploads listed)
stays_there uploads more None within e = (refl, refl)
stays_there uploads more (Some digest) within e =
    elim (map.get uploads digest) as (λ o. map.get uploads digest ≡ o → is_some o ≡ true → (if_lacking more (Some digest) ≡ None) × (file_at more (Some digest) ≡ file_at uploads (Some digest))) [
      | Some bytes ↦ λ found _. let there = within digest bytes found in (rw there refl, λ i. Some (unwrap_or ((there ∙ sym found) i) []))
      | None ↦ λ found lacking. cc lacking
    ] refl (there uploads digest e)

pub same_files : (uploads more : Contents) (files : Paths (Option Digest)) → IsWithin uploads more → least_missing_of uploads files ≡ None → SameFiles uploads more files
same_files uploads more [] within e = record { complete = refl; each = tt }
same_files uploads more (f ∷ files) within e =
    let parts = none_missing uploads f files e in
    let first = stays_there uploads more f.1 within parts.0 in
    let rest = same_files uploads more files within parts.1 in record {
      complete = least_missing-cons more f files ∙ (λ i. lesser (first.0 i) (rest.complete i));
      each = (first.1, rest.each);
    }

same_tree : (uploads more : Contents) (files : Paths (Option Digest)) → AllByRecursion (λ f. file_at more f.1 ≡ file_at uploads f.1) files → tree_of more files ≡ tree_of uploads files
same_tree uploads more [] h = refl
same_tree uploads more (f ∷ files) h = λ i. cons_option (option_map (λ bytes. (f.0, bytes)) (h.0 i)) (same_tree uploads more files h.1 i)

same_listed : (site : SiteName) (uploads more : Contents) (files : Paths (Option Digest)) (state : State) → AllByRecursion (λ f. file_at more f.1 ≡ file_at uploads f.1) files
    → with_listed site more files state ≡ with_listed site uploads files state
same_listed site uploads more [] state h = refl
same_listed site uploads more (f ∷ files) state h = λ i. with_cell (same_listed site uploads more files state h.1 i) (cell.Live site f.0) (option_map value.Live (h.0 i))

pub no_option : {A B : Type 0} (f : A → B) (o : Option A) → option_map f o ≡ None → o ≡ None
no_option f None e = refl
no_option f (Some x) e = cc e

pub publish_grows : (site : SiteName) (m : ℕ) (uploads more : Contents) (state : State) (draft : Option Draft) → IsWithin uploads more → publish_refusal uploads draft ≡ None
    → (publish_refusal more draft ≡ None) × (published site m more state draft ≡ published site m uploads state draft)
publish_grows site m uploads more state None within e = cc e
publish_grows site m uploads more state (Some draft) within e =
    let files = draft.files.1 in
    let same = same_files uploads more files within (no_option NotComplete _ e) in (
      ap (option_map NotComplete) same.complete,
      elim (draft.files.0) as (λ b. cond b (with_patch site m more files state) (with_published site m (tree_of more files) state)
          ≡ cond b (with_patch site m uploads files state) (with_published site m (tree_of uploads files) state)) [
            | true ↦ ap (λ s. with_cell s (cell.Draft site m) None) (same_listed site uploads more files state same.each)
            | false ↦ ap (λ tree. with_published site m tree state) (same_tree uploads more files same.each)
          ],
    )

pub restore_grows : (site : SiteName) (m : ℕ) (uploads more : Contents) (state : State) (kept : Option (Paths (List ℕ))) (draft : Option Draft) → IsWithin uploads more
    → restore_refusal uploads kept draft ≡ None
    → (restore_refusal more kept draft ≡ None) × (restored site m more state kept draft ≡ restored site m uploads state kept draft)
restore_grows site m uploads more state (Some tree) draft within e = (refl, refl)
restore_grows site m uploads more state None None within e = cc e
restore_grows site m uploads more state None (Some draft) within e = publish_grows site m uploads more state (Some draft) within e
