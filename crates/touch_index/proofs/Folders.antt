-- The folders that a path is below, one slash after another, and those that it shares with the path before.
use Rattle.std.proofs.Common.{◌≡◌, ◌⊎◌, inl, inr, ℕ, zero, suc, ◌<◌, ◌≤◌, ◌==◌, Bool, true, false, ◌&&◌, ◌||◌, List, [], ◌∷◌, length, take, slice_index, nat_le, Option, Some, None, refl, sym, ap, subst, ◌∙◌, arith}
use Rattle.std.proofs.lemmas.Bool.{false≢true}
use Rattle.std.proofs.lemmas.Bool.Decides.{nat_tests}
use Rattle.host_names.specs.declared.names.SiteName.{SiteName}
use Rattle.host_names.specs.declared.cells.Cell.{Cell}
use Rattle.host_names.specs.declared.cells.Cell.TheVariants as cell
use Rattle.touch_index.specs.Keys.{all_folders, any_below, folder_key, has_folder, has_folder_at, has_folder_from}
use Rattle.touch_index.specs.Next.{IsNext}
use Rattle.touch_index.specs.Postings.{Postings, SharesFront, is_posted, is_under_folders, is_under_folders_from, is_under_marks}
use Rattle.touch_index.proofs.Both.{and_none, none_and}
use Rattle.touch_index.proofs.Covered.{and_both, and_first, any-at, or_left, or_right}
use Rattle.touch_index.proofs.Next.{IsNext-same}

-- ---- one slash after another

module _ (posted : ℕ → ℕ → Bool) (site : SiteName) (path : List ℕ) (mark first : ℕ) where
  abbrev at_slash : ℕ → ℕ → Bool
  at_slash i n = nat_le first n && has_folder_at (λ key. posted key i) site path n

  -- the test of the folders that end before this place
  abbrev pub so_far : ℕ → ℕ → Bool
  so_far end i = posted mark i && any_below (at_slash i) end

  early : (i end : ℕ) → end ≤ first → any_below (at_slash i) end ≡ false
  early i zero below = refl
  early i (suc end) below =
      let here = none_and (nat_le first end) (has_folder_at (λ key. posted key i) site path end) (not_yet first end (omega (arith, below))) in
      λ j. early i end (omega (arith, below)) j || here j
    where
      not_yet : (first end : ℕ) → end < first → nat_le first end ≡ false
      not_yet first end less = grind (arith, nat_tests)

  pub none-yet : (number : ℕ) → IsNext (so_far first) number None
  none-yet number = λ i above. and_none (posted mark i) _ (early i first (omega arith))

  apart : (m a b : Bool) → ((m && a) || (m && b)) ≡ (m && (a || b))
  apart true a b = refl
  apart false a b = refl

  or_none : (a b : Bool) → b ≡ false → a ≡ (a || b)
  or_none true b e = refl
  or_none false b e = sym e

  pub with-slash : (end number key : ℕ) (next : Option ℕ) → first ≤ end → slice_index path end ≡ 47 → key ≡ folder_key site (take end path)
      → IsNext (λ i. so_far end i || (posted mark i && posted key i)) number next → IsNext (so_far (suc end)) number next
  with-slash end number key next near slash at is = IsNext-same _ (so_far (suc end)) number next (λ i.
      apart (posted mark i) (any_below (at_slash i) end) (posted key i)
      ∙ ap (λ t. posted mark i && (any_below (at_slash i) end || t)) (here i)) is
    where
      reached : (first end : ℕ) → first ≤ end → nat_le first end ≡ true
      reached first end le = grind (arith, nat_tests)

      here : (i : ℕ) → posted key i ≡ at_slash i end
      here i = (λ j. posted (at j) i) ∙ sym (λ j. reached first end near j && (ap (λ b. b == 47) slash j && posted (folder_key site (take end path)) i))

  pub no-slash : (end number : ℕ) (next : Option ℕ) → (slice_index path end == 47) ≡ false → IsNext (so_far end) number next → IsNext (so_far (suc end)) number next
  no-slash end number next other is = IsNext-same (so_far end) (so_far (suc end)) number next (λ i.
      ap (λ t. posted mark i && t) (or_none (any_below (at_slash i) end) (at_slash i end) (and_none (nat_le first end) _ (none_and _ _ other)))) is

-- ---- those that another path is below too

-- what is at the front of both
both-have : (n m : ℕ) (p q : List ℕ) → take n p ≡ take n q → m < n → m < length q → (m < length p) × ((slice_index p m ≡ slice_index q m) × (take m p ≡ take m q))
both-have zero m p q e less within = absurd (omega (arith, less))
both-have (suc n) m p [] e less within = absurd (omega (arith, within))
both-have (suc n) m [] (b ∷ q) e less within = cc e
both-have (suc n) zero (a ∷ p) (b ∷ q) e less within = (omega arith, (cc e, refl))
both-have (suc n) (suc m) (a ∷ p) (b ∷ q) e less within =
    let rest = both-have n m p q (cc e) (omega (arith, less)) (omega (arith, within)) in
    let same : a ≡ b = cc e in
    (omega (arith, rest.0), (rest.1.0, λ i. same i ∷ rest.1.1 i))

-- where none of the shorter ones passes, all is told by the longer ones
only-from : (test : ℕ → Bool) (first end : ℕ) → ((n : ℕ) → n < first → n < end → test n ≡ false) → any_below (λ n. nat_le first n && test n) end ≡ any_below test end
only-from test first zero none = refl
only-from test first (suc end) none =
    λ j. only-from test first end (λ n less within. none n less (omega (arith, within))) j || here (nat_le first end) refl j
  where
    below : (first end : ℕ) → nat_le first end ≡ false → end < first
    below first end e = grind (arith, nat_tests)

    here : (b : Bool) → nat_le first end ≡ b → (nat_le first end && test end) ≡ test end
    here true e = ap (λ t. t && test end) e
    here false e = ap (λ t. t && test end) e ∙ sym (none end (below first end e) (omega arith))

-- a test that passes for what the cell before is below
module _ (index : Postings) (test : ℕ → Bool) (i : ℕ) where
  abbrev posted : ℕ → Bool
  posted key = is_posted index key i

  -- a folder that the path before has too
  shared-folder : (n m : ℕ) (before : Cell) (site : SiteName) (path : List ℕ) → SharesFront n before (cell.Live site path) → m < n → m < length path
      → posted (all_folders site) ≡ true → has_folder_at posted site path m ≡ true → is_under_folders index before i ≡ true
  shared-folder n m (cell.Live own p) site path (inl none) less within mark at = absurd (omega (arith, none, less))
  shared-folder n m (cell.Live own p) site path (inr (same, front)) less within mark at =
      let have = both-have n m p path front less within in
      let parts = and_first (slice_index path m == 47) _ at in
      and_both _ _ (ap (λ s. posted (all_folders s)) same ∙ mark)
      (any-at (has_folder_at posted own p) m (length p) have.0
      (and_both _ _ (ap (λ b. b == 47) have.1.0 ∙ parts.0) ((λ j. posted (folder_key (same j) (have.1.1 j))) ∙ parts.1)))
  shared-folder n m (cell.Kept own k) site path none less within mark at = absurd (omega (arith, none, less))
  shared-folder n m (cell.Alias own name) site path none less within mark at = absurd (omega (arith, none, less))
  shared-folder n m (cell.Draft own k) site path none less within mark at = absurd (omega (arith, none, less))

  -- the cell's other folders tell all that the test leaves open
  pub others-tell : (n : ℕ) (before c : Cell) → SharesFront n before c → (is_under_folders index before i ≡ true → test i ≡ true)
      → (test i || is_under_folders_from index c n i) ≡ (test i || is_under_folders index c i)
  others-tell n before (cell.Live site path) shares covered = elim (test i) as (λ t. test i ≡ t → (t || is_under_folders_from index (cell.Live site path) n i) ≡ (t || is_under_folders index (cell.Live site path) i)) [
    | true ↦ λ e. refl
    | false ↦ λ e. elim (posted (all_folders site)) as (λ m. posted (all_folders site) ≡ m → (m && has_folder_from posted site path n) ≡ (m && has_folder posted site path)) [
      | true ↦ λ mark. only-from (has_folder_at posted site path) n (length path) (λ m less within.
          elim (has_folder_at posted site path m) as (λ t. has_folder_at posted site path m ≡ t → t ≡ false) [
            | true ↦ λ at. absurd (false≢true (sym e ∙ covered (shared-folder n m before site path shares less within mark at)))
            | false ↦ λ at. refl
          ] refl)
      | false ↦ λ mark. refl
    ] refl
  ] refl
  others-tell n before (cell.Kept site k) shares covered = refl
  others-tell n before (cell.Alias site name) shares covered = refl
  others-tell n before (cell.Draft site k) shares covered = refl

  -- where there is no cell before, those of at least no bytes are all
  pub all-tell : (n : ℕ) (c : Cell) → n ≡ 0 → (test i || is_under_folders_from index c n i) ≡ (test i || is_under_folders index c i)
  all-tell n (cell.Live site path) none =
      ap (λ t. test i || (posted (all_folders site) && t)) (only-from (has_folder_at posted site path) n (length path) (λ m less within. absurd (omega (arith, none, less))))
  all-tell n (cell.Kept site k) none = refl
  all-tell n (cell.Alias site name) none = refl
  all-tell n (cell.Draft site k) none = refl

-- where nothing is posted under the marks
pub unmarked-none : (index : Postings) (number : ℕ) (c : Cell) → IsNext (λ i. is_under_marks index c i) number None → (i : ℕ) → number < i → is_under_folders index c i ≡ false
unmarked-none index number (cell.Live site path) is i above =
    none_and (is_posted index (all_folders site) i) (has_folder (λ key. is_posted index key i) site path) (first_of (is_posted index (all_folders site) i) false (is i above))
  where
    first_of : (a b : Bool) → (a || b) ≡ false → a ≡ false
    first_of true b e = cc e
    first_of false b e = refl
unmarked-none index number (cell.Kept site k) is i above = refl
unmarked-none index number (cell.Alias site name) is i above = refl
unmarked-none index number (cell.Draft site k) is i above = refl
