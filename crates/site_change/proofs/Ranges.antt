-- Which numbers accepted commands name.
use Rattle.std.proofs.Common.{◌≡◌, ◌⊎◌, inl, inr, ℕ, ◌≤◌, nat_lt, true, false, cond, List, Option, Some, None, is_some, refl}
use Rattle.std.proofs.lemmas.Bool.{ltb-false}
use Rattle.byte_view.specs.Contents.{Contents}
use Rattle.host_names.specs.declared.names.AliasName.{AliasName}
use Rattle.host_names.specs.declared.names.SiteName.{SiteName}
use Rattle.site_change.specs.declared.refusals.ChangeRefusal.TheVariants.{TooManyFiles}
use Rattle.site_state.specs.Files.{Paths}
use Rattle.site_state.specs.States.{State, draft_at, kept_at}
use Rattle.site_state.specs.declared.values.Draft.{Draft}
use Rattle.site_change.specs.Changes.{IsNumber, publish_refusal, removal_refusal, restore_refusal}

-- each deploy that is open or kept has a number in the range
abbrev pub AreNumbered : State → Type 0
AreNumbered state = (site : SiteName) (m : ℕ) → (is_some (draft_at state site m) ≡ true) ⊎ (is_some (kept_at state site m) ≡ true) → IsNumber m

pub few_listed : (n : ℕ) → cond (nat_lt 10000 n) (Some TooManyFiles) None ≡ None → n ≤ 10000
few_listed n e = elim (nat_lt 10000 n) as (λ t. nat_lt 10000 n ≡ t → cond t (Some TooManyFiles) None ≡ None → n ≤ 10000) [
  | true ↦ λ is h. cc h
  | false ↦ λ is h. ltb-false 10000 n is
] refl e

-- ---- what is there where a command is accepted

pub is_open : (uploads : Contents) (draft : Option Draft) → publish_refusal uploads draft ≡ None → is_some draft ≡ true
is_open uploads None e = cc e
is_open uploads (Some draft) e = refl

pub is_known : (uploads : Contents) (tree : Option (Paths (List ℕ))) (draft : Option Draft) → restore_refusal uploads tree draft ≡ None
    → (is_some draft ≡ true) ⊎ (is_some tree ≡ true)
is_known uploads (Some tree) draft e = inr refl
is_known uploads None (Some draft) e = inl refl
is_known uploads None None e = cc e

pub is_kept : (tree : Option (Paths (List ℕ))) (alias : Option AliasName) → removal_refusal tree alias ≡ None → is_some tree ≡ true
is_kept None alias e = cc e
is_kept (Some tree) alias e = refl
