-- The places that a house keeps stay reached: through entries, uploads and checks.
use Rattle.std.proofs.Common.{◌≡◌, ◌≢◌, ◌⊎◌, inl, inr, ℕ, ◌<◌, ◌≤◌, ◌==◌, true, false, not, List, Option, Some, None, is_some, unwrap_or, Result, Ok, Err, OnOk, OnErr, refl, sym, ap, subst, ◌∙◌, arith}
use Rattle.std.specs.FinMap as map
use Rattle.std.specs.BTreeMap as tree
use Rattle.std.specs.BTreeMap.{BTreeMap}
use Rattle.std.specs.Ordering.{nat_cmp}
use Rattle.std.proofs.lemmas.Bool.{eqb-true, eqb-false}
use Rattle.byte_view.specs.Contents.{Contents, with_file}
use Rattle.host_names.specs.declared.cells.Cell.TheVariants as cell
use Rattle.host_names.specs.declared.digests.Digest.{Digest}
use Rattle.host_names.specs.declared.names.SiteName.{SiteName}
use Rattle.site_state.specs.Missing.{is_lacking, first_lacking_of}
use Rattle.site_state.proofs.FirstLacking.{first_lacking-grows}
use Rattle.site_state.specs.declared.values.Draft.{Draft}
use Rattle.site_change.specs.Changes.{IsWithin}
use Rattle.site_change.specs.declared.commands.Command.TheVariants.{Open}
use Rattle.site_change.specs.declared.entries.Entry.{Entry}
use Rattle.site_change.specs.declared.entries.Entry.TheVariants.{Change}
use Rattle.change_log.proofs.Longer.{entry_at-push}
use Rattle.change_log.specs.Bases.{IsBase}
use Rattle.change_log.specs.Logs.{Log, entry_at, with_entry}
use Rattle.change_log.specs.declared.names.Name.{Name}
use Rattle.change_log.specs.declared.names.Name.TheVariants as name
use Rattle.change_undo.proofs.Runs.{entry_at-some}
use Rattle.change_undo.specs.Histories.{Past}
use Rattle.change_undo.specs.Openings.{IsDraftOfBase, OpensDraft}
use Rattle.site_change.proofs.MoreUploads.{kept-with_file}
use Rattle.host_server.specs.Readiness.{AreReached, listed_by, place_of}

-- no place is kept yet
pub reached_none : (log : Log) (uploads : Contents) (places : BTreeMap ℕ ℕ) → ((n : ℕ) → tree.get nat_cmp places n ≡ None) → AreReached log uploads places
reached_none log uploads places none = record { of_entries = λ n later. none_at n _; of_base = λ site n draft is. none_at n _ }
  where
    none_at : (n most : ℕ) → place_of places n ≤ most
    none_at n most = let at : place_of places n ≡ 0 = ap (λ (o : Option ℕ). unwrap_or o 0) (none n) in omega (arith, at)

-- ---- an entry more

pub reached_by_entry : (log : Log) (entry : Entry) (uploads : Contents) (places : BTreeMap ℕ ℕ) → AreReached log uploads places → AreReached (with_entry log entry) uploads places
reached_by_entry log entry uploads places reached = record {
  of_entries = λ n later. by_entry n later (entry_at-push log entry n);
  of_base = reached.of_base;
}
  where
    by_entry : (n : ℕ) → log.base < n → (entry_at (with_entry log entry) n ≡ entry_at log n) ⊎ (entry_at log n ≡ None)
        → place_of places n ≤ first_lacking_of uploads (listed_by (entry_at (with_entry log entry) n))
    by_entry n later (inl same) =
        subst (λ (e : Option Entry). place_of places n ≤ first_lacking_of uploads (listed_by e)) (sym same) (reached.of_entries n later)
    by_entry n later (inr none) =
        let first : place_of places n ≤ 0 = subst (λ (e : Option Entry). place_of places n ≤ first_lacking_of uploads (listed_by e)) none (reached.of_entries n later) in
        omega (arith, first)

pub reached_by_history : {A E : Type 0} (r : Result A E) (old new : Past) (uploads : Contents) (places : BTreeMap ℕ ℕ) (entry : Entry) → AreReached old.entries uploads places
    → OnOk r (new.entries ≡ with_entry old.entries entry) → OnErr r (new.entries ≡ old.entries) → AreReached new.entries uploads places
reached_by_history (Ok x) old new uploads places entry reached ok err =
    subst (λ (l : Log). AreReached l uploads places) (sym ok) (reached_by_entry old.entries entry uploads places reached)
reached_by_history (Err e) old new uploads places entry reached ok err = subst (λ (l : Log). AreReached l uploads places) (sym err) reached

-- ---- an upload more

stays_known : (uploads more : Contents) → IsWithin uploads more → (digest : Digest) → is_lacking uploads digest ≡ false → is_lacking more digest ≡ false
stays_known uploads more within digest e =
    elim (map.get uploads digest) as (λ o. map.get uploads digest ≡ o → not (is_some o) ≡ false → is_lacking more digest ≡ false) [
      | Some bytes ↦ λ found _. rw (within digest bytes found) refl
      | None ↦ λ found lacking. cc lacking
    ] refl e

pub reached_by_upload : {A E : Type 0} (r : Result A E) (log : Log) (uploads more : Contents) (places : BTreeMap ℕ ℕ) (bytes : List ℕ) → AreReached log uploads places
    → OnOk r (more ≡ with_file uploads bytes) → OnErr r (more ≡ uploads) → AreReached log more places
reached_by_upload (Ok x) log uploads more places bytes reached ok err =
    let known = stays_known uploads (with_file uploads bytes) (kept-with_file uploads bytes) in
    subst (λ u. AreReached log u places) (sym ok) (record {
      of_entries = λ n later.
          let grown = first_lacking-grows uploads (with_file uploads bytes) (listed_by (entry_at log n)) known in
          omega (arith, reached.of_entries n later, grown);
      of_base = λ site n draft is.
          let grown = first_lacking-grows uploads (with_file uploads bytes) draft.files.1 known in
          omega (arith, reached.of_base site n draft is, grown);
    })
reached_by_upload (Err e) log uploads more places bytes reached ok err = subst (λ u. AreReached log u places) (sym err) reached

-- ---- a check, and no place any more

-- the open deploy that a name is; this one, if it is none
abbrev draft_in : Draft → Option Name → Draft
draft_in draft (Some (name.Draft d)) = d
draft_in draft o = draft

-- a deploy that is open, of a base that may be one
module _ (uploads : Contents) (log : Log) (is_base : IsBase uploads log.base log.names) (site : SiteName) (number : ℕ) (draft : Draft)
    (open_there : IsDraftOfBase log site number draft ⊎ OpensDraft log site number draft) where
  up_to_base : (other : SiteName) (n : ℕ) (found : Draft) → IsDraftOfBase log other n found → n ≤ log.base
  up_to_base other n found is = (is_base.within (cell.Draft other n) (name.Draft found) n is refl).1

  -- no place before what is lacking is kept for it
  pub reached_there : (places : BTreeMap ℕ ℕ) → AreReached log uploads places → place_of places number ≤ first_lacking_of uploads draft.files.1
  reached_there places reached = by open_there
    where
      by : IsDraftOfBase log site number draft ⊎ OpensDraft log site number draft → place_of places number ≤ first_lacking_of uploads draft.files.1
      by (inl of) = reached.of_base site number draft of
      by (inr opens) =
          subst (λ (e : Option Entry). place_of places number ≤ first_lacking_of uploads (listed_by e)) opens
          (reached.of_entries number (entry_at-some log number (Change (Open site draft.files draft.auto)) opens))

  -- what is listed under its number is what it lists
  as_entry : log.base < number → listed_by (entry_at log number) ≡ draft.files.1
  as_entry later = by open_there
    where
      by : IsDraftOfBase log site number draft ⊎ OpensDraft log site number draft → listed_by (entry_at log number) ≡ draft.files.1
      by (inl of) = absurd (omega (arith, later, up_to_base site number draft of))
      by (inr opens) = ap listed_by opens

  as_draft : (other : SiteName) (found : Draft) → IsDraftOfBase log other number found → found ≡ draft
  as_draft other found is = by open_there
    where
      by : IsDraftOfBase log site number draft ⊎ OpensDraft log site number draft → found ≡ draft
      by (inl of) =
          let there = is_base.once (cell.Draft other number) (cell.Draft site number) (name.Draft found) (name.Draft draft) number is of refl refl in
          let both : Some (name.Draft found) ≡ Some (name.Draft draft) = sym is ∙ ap (map.get log.names) there ∙ of in
          ap (draft_in draft) both
      by (inr opens) =
          absurd (omega (arith, up_to_base other number found is, entry_at-some log number (Change (Open site draft.files draft.auto)) opens))

  -- a check keeps the place of what is lacking
  pub reached_by_check : (old new : BTreeMap ℕ ℕ) → AreReached log uploads old
      → ((n : ℕ) → (place_of new n ≡ place_of old n) ⊎ ((n ≡ number) × (place_of new n ≡ first_lacking_of uploads draft.files.1)))
      → AreReached log uploads new
  reached_by_check old new reached kept = record {
    of_entries = λ n later. entry_by n later (kept n);
    of_base = λ other n found is. base_by other n found is (kept n);
  }
    where
      entry_by : (n : ℕ) → log.base < n → (place_of new n ≡ place_of old n) ⊎ ((n ≡ number) × (place_of new n ≡ first_lacking_of uploads draft.files.1))
          → place_of new n ≤ first_lacking_of uploads (listed_by (entry_at log n))
      entry_by n later (inl same) = omega (arith, same, reached.of_entries n later)
      entry_by n later (inr here) =
          let at : first_lacking_of uploads (listed_by (entry_at log n)) ≡ first_lacking_of uploads draft.files.1 =
          ap (λ k. first_lacking_of uploads (listed_by (entry_at log k))) here.0
          ∙ ap (first_lacking_of uploads) (as_entry (subst (λ (k : ℕ). log.base < k) here.0 later)) in
          omega (arith, here.1, at)

      base_by : (other : SiteName) (n : ℕ) (found : Draft) → IsDraftOfBase log other n found
          → (place_of new n ≡ place_of old n) ⊎ ((n ≡ number) × (place_of new n ≡ first_lacking_of uploads draft.files.1))
          → place_of new n ≤ first_lacking_of uploads found.files.1
      base_by other n found is (inl same) = omega (arith, same, reached.of_base other n found is)
      base_by other n found is (inr here) =
          let at : found ≡ draft = as_draft other found (subst (λ (k : ℕ). IsDraftOfBase log other k found) here.0 is) in
          let lacking : first_lacking_of uploads found.files.1 ≡ first_lacking_of uploads draft.files.1 = ap (λ (d : Draft). first_lacking_of uploads d.files.1) at in
          omega (arith, here.1, lacking)

pub reached_without : (log : Log) (uploads : Contents) (old new : BTreeMap ℕ ℕ) (number : ℕ) → AreReached log uploads old
    → place_of new number ≡ 0 → ((n : ℕ) → n ≢ number → place_of new n ≡ place_of old n) → AreReached log uploads new
reached_without log uploads old new number reached none others = record {
  of_entries = λ n later. no_more n _ (reached.of_entries n later);
  of_base = λ site n draft is. no_more n _ (reached.of_base site n draft is);
}
  where
    no_more : (n most : ℕ) → place_of old n ≤ most → place_of new n ≤ most
    no_more n most within =
        elim (n == number) as (λ t. (n == number) ≡ t → place_of new n ≤ most) [
          | true ↦ λ e. let at : place_of new n ≡ 0 = ap (place_of new) (eqb-true n number e) ∙ none in omega (arith, at)
          | false ↦ λ e. let same = others n (eqb-false n number e) in omega (arith, same, within)
        ] refl
