-- The first file that a deploy lists and that is lacking.
use Rattle.std.proofs.Common.{◌≡◌, ◌↔◌, ℕ, zero, suc, ◌+◌, ◌<◌, ◌≤◌, Bool, true, false, cond, List, [], ◌∷◌, length, get_or, Option, Some, None, is_none, is_some, refl, sym, ap, subst, ◌∙◌, arith}
use Rattle.std.specs.List.{prefix_len}
use Rattle.byte_view.specs.Contents.{Contents}
use Rattle.host_names.specs.declared.digests.Digest.{Digest}
use Rattle.site_state.specs.Files.{Paths}
use Rattle.site_state.specs.Missing.{is_lacking, if_lacking, lesser, least_missing_of, first_lacking_of}
use Rattle.site_state.proofs.LackingDigests.{some_left, least_missing-cons}

-- ---- how many items pass a test before one fails

module _ {X : Type 0} (p : X → Bool) where
  prefix-within : (xs : List X) → prefix_len p xs ≤ length xs
  prefix-within [] = omega arith
  prefix-within (x ∷ xs) =
      let rest = prefix-within xs in
      elim (p x) as (λ t. cond t (1 + prefix_len p xs) 0 ≤ length (x ∷ xs)) [ true ↦ omega (arith, rest) | false ↦ omega arith ]

  prefix-past : (xs : List X) (i : ℕ) (d : X) → i ≤ prefix_len p xs → i < length xs → p (get_or xs i d) ≡ true → i + 1 ≤ prefix_len p xs
  prefix-past [] i d le lt e = absurd (omega (arith, lt))
  prefix-past (x ∷ xs) zero d le lt e = rw e (omega arith)
  prefix-past (x ∷ xs) (suc i) d le lt e =
      elim (p x) as (λ t. suc i ≤ cond t (1 + prefix_len p xs) 0 → suc i + 1 ≤ cond t (1 + prefix_len p xs) 0) [
        | true ↦ λ some. let rest = prefix-past xs i d (omega (arith, some)) (omega (arith, lt)) e in omega (arith, rest)
        | false ↦ λ none. absurd (omega (arith, none))
      ] le

  prefix-here : (xs : List X) (i : ℕ) (d : X) → i ≤ prefix_len p xs → i < length xs → p (get_or xs i d) ≡ false → i ≡ prefix_len p xs
  prefix-here [] i d le lt e = absurd (omega (arith, lt))
  prefix-here (x ∷ xs) zero d le lt e = rw e refl
  prefix-here (x ∷ xs) (suc i) d le lt e =
      elim (p x) as (λ t. suc i ≤ cond t (1 + prefix_len p xs) 0 → suc i ≡ cond t (1 + prefix_len p xs) 0) [
        | true ↦ λ some. let rest = prefix-here xs i d (omega (arith, some)) (omega (arith, lt)) e in omega (arith, rest)
        | false ↦ λ none. absurd (omega (arith, none))
      ] le

  prefix-more : (q : X → Bool) → ((x : X) → p x ≡ true → q x ≡ true) → (xs : List X) → prefix_len p xs ≤ prefix_len q xs
  prefix-more q more [] = omega arith
  prefix-more q more (x ∷ xs) =
      let rest = prefix-more q more xs in
      elim (p x) as (λ t. p x ≡ t → cond t (1 + prefix_len p xs) 0 ≤ cond (q x) (1 + prefix_len q xs) 0) [
        | true ↦ λ e. rw (more x e) (omega (arith, rest))
        | false ↦ λ e. omega arith
      ] refl

-- ---- where the first is lacking

module _ (contents : Contents) where
  none_lacking : (files : Paths (Option Digest)) → length files ≤ first_lacking_of contents files → least_missing_of contents files ≡ None
  none_lacking [] le = refl
  none_lacking (f ∷ files) le =
      least_missing-cons contents f files
      ∙ (elim (if_lacking contents f.1) as (λ o. length (f ∷ files) ≤ cond (is_none o) (1 + first_lacking_of contents files) 0 → lesser o (least_missing_of contents files) ≡ None) [
        | Some digest ↦ λ none. absurd (omega (arith, none))
        | None ↦ λ some. none_lacking files (omega (arith, some))
      ] le)

  all_passed : (files : Paths (Option Digest)) → least_missing_of contents files ≡ None → first_lacking_of contents files ≡ length files
  all_passed [] none = refl
  all_passed (f ∷ files) none =
      elim (if_lacking contents f.1) as (λ o. lesser o (least_missing_of contents files) ≡ None → cond (is_none o) (1 + first_lacking_of contents files) 0 ≡ length (f ∷ files)) [
        | Some digest ↦ λ e. cc (sym (ap is_some e) ∙ some_left (Some digest) (least_missing_of contents files) refl)
        | None ↦ λ e. let rest = all_passed files e in omega (arith, rest)
      ] (sym (least_missing-cons contents f files) ∙ none)

  -- that is the end exactly where nothing is missing
  pub complete_at : (files : Paths (Option Digest)) (place : ℕ) → place ≡ first_lacking_of contents files → (place ≡ length files) ↔ (least_missing_of contents files ≡ None)
  complete_at files place first = (λ last. none_lacking files (omega (arith, first, last)), λ none. first ∙ all_passed files none)

  -- a search that goes on from a place
  module _ (items files : Paths (Option Digest)) (place : ℕ) (same : items ≡ files) (before : place ≤ first_lacking_of contents files) where
    pub stops_at_end : length items ≤ place → place ≡ first_lacking_of contents files
    stops_at_end le = omega (arith, before, prefix-within (λ f. is_none (if_lacking contents f.1)) files, ap length same)

    module _ (d : List ℕ × Option Digest) (lt : place < length items) (found : Option Digest) (is : found ≡ if_lacking contents (get_or items place d).1) where
      tested : (known : Bool) → is_none found ≡ known → is_none (if_lacking contents (get_or files place d).1) ≡ known
      tested known e = ap (λ (l : Paths (Option Digest)). is_none (if_lacking contents (get_or l place d).1)) (sym same) ∙ sym (ap is_none is) ∙ e

      within : place < length files
      within = subst (λ l. place < length l) same lt

      pub goes_past : is_none found ≡ true → place + 1 ≤ first_lacking_of contents files
      goes_past e = prefix-past (λ f. is_none (if_lacking contents f.1)) files place d before within (tested true e)

      pub stops_here : is_none found ≡ false → place ≡ first_lacking_of contents files
      stops_here e = prefix-here (λ f. is_none (if_lacking contents f.1)) files place d before within (tested false e)

-- ---- where more is uploaded

stays_known : (contents more : Contents) → ((digest : Digest) → is_lacking contents digest ≡ false → is_lacking more digest ≡ false) → (listed : Option Digest)
    → is_none (if_lacking contents listed) ≡ true → is_none (if_lacking more listed) ≡ true
stays_known contents more known None e = refl
stays_known contents more known (Some digest) e =
    elim (is_lacking contents digest) as (λ t. is_lacking contents digest ≡ t → is_none (cond t (Some digest) None) ≡ true → is_none (if_lacking more (Some digest)) ≡ true) [
      | true ↦ λ _ lacking. cc lacking
      | false ↦ λ there _. rw (known digest there) refl
    ] refl e

-- what is known stays known, so that the first that is lacking comes no earlier
pub first_lacking-grows : (contents more : Contents) (files : Paths (Option Digest)) → ((digest : Digest) → is_lacking contents digest ≡ false → is_lacking more digest ≡ false)
    → first_lacking_of contents files ≤ first_lacking_of more files
first_lacking-grows contents more files known =
    prefix-more (λ f. is_none (if_lacking contents f.1)) (λ f. is_none (if_lacking more f.1)) (λ f e. stays_known contents more known f.1 e) files
