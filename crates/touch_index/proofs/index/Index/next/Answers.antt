use Rattle.std.proofs.Common.{◌≡◌, ℕ, ◌+◌, ◌||◌, Bool, true, false, take, Option, Some, None, IfSome, refl, sym, ap, subst, ◌∙◌}
use Rattle.std.specs.List.{list_any}
use Rattle.std.proofs.lemmas.List.Folds.{list_any_more}
use Rattle.host_names.specs.declared.cells.Cell.{Cell}
use Rattle.site_state.specs.declared.changes.Change.{Change}
use Rattle.touch_index.specs.declared.index.Found.{Found}
use Rattle.touch_index.specs.Keys.{cell_key, covers}
use Rattle.touch_index.specs.Next.{IsNext}
use Rattle.touch_index.specs.Postings.{Postings, is_posted, is_under_folders, is_under_wildcards, may_touch_any}
use Rattle.touch_index.proofs.Covered.{or_left, or_right}
use Rattle.touch_index.proofs.Next.{IsNext-same}
use Rattle.touch_index.proofs.index.Index.next.Goals as goal

grouped : (a b c : Bool) → ((a || b) || c) ≡ (a || (b || c))
grouped true b c = refl
grouped false b c = refl

-- what passes the one test passes the other
wider : (index : Postings) (front near : ℕ → Bool) → ((i : ℕ) → front i ≡ true → near i ≡ true) → (before : Option Found)
    → IfSome before (λ b. (i : ℕ) → is_under_folders index b.cell.now i ≡ true → front i ≡ true)
    → IfSome before (λ b. (i : ℕ) → is_under_folders index b.cell.now i ≡ true → near i ≡ true)
wider index front near more None told = told
wider index front near more (Some b) told = λ i e. more i (told i e)

pub changes-preserved : goal.changes-preserved
changes-preserved c =
    let index = c.args.self.now in
    let n = c.args.number in
    let changes = c.args.changes.now in
    let at = c.changes.change-index in
    let cell = c.change-item.result.cell in
    let test : ℕ → Change → Bool = λ i change. covers (λ key. is_posted index key i) change.cell in
    let front : ℕ → Bool = λ i. list_any (test i) (take at changes) in
    let own : ℕ → Bool = is_posted index (cell_key cell) in
    let wild : ℕ → Bool = is_under_wildcards index cell in
    let folder : ℕ → Bool = is_under_folders index cell in
    let near : ℕ → Bool = λ i. front i || (own i || wild i) in
    let O : ℕ → Type 0 = λ key. IsNext (is_posted index key) n c.next_under-own.result in
    let W : Cell → Type 0 = λ x. IsNext (is_under_wildcards index x) n c.found_for-found.result.wildcard in
    let F : Cell → Type 0 = λ x. IsNext (λ i. near i || is_under_folders index x i) n c.lesser_by_folders-least.result in
    let more : (i : ℕ) → list_any (test i) (take (at + 1) changes) ≡ front i || ((own i || wild i) || folder i) =
    λ i. list_any_more (test i) changes at c.change-item.result c.changes-test.true ∙ sym (ap (λ x. front i || test i x) c.change-item.is) in
    let found = subst W c.found_for-found.ensures.cell c.found_for-found.ensures.found.wildcard in
    let here = c.lesser.ensures own wild n (subst O c.cell_key.ensures c.next_under-own.ensures) found in
    let so_far = c.lesser-near.ensures front (λ i. own i || wild i) n c.changes.invariant.least here in
    let told : IfSome c.changes.before (λ before. (i : ℕ) → is_under_folders index before.cell.now i ≡ true → near i ≡ true) = wider index front near (λ i e. or_left _ _ e) c.changes.before c.changes.invariant.told in
    record {
      least = IsNext-same (λ i. near i || folder i) (λ i. list_any (test i) (take (at + 1) changes)) n c.lesser_by_folders-least.result
          (λ i. grouped (front i) (own i || wild i) (folder i) ∙ sym (more i))
          (subst F c.found_for-found.ensures.cell (c.lesser_by_folders-least.ensures near told so_far));
      found = c.found_for-found.ensures.found;
      told = λ i e. more i ∙ or_right _ _ (or_right _ _ (sym (ap (λ x. is_under_folders index x i) c.found_for-found.ensures.cell) ∙ e));
    }
