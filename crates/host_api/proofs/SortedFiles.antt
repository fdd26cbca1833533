-- What members list, collected in their order and then sorted by path.
use Rattle.std.proofs.Common.{◌≡◌, ℕ, Bool, true, false, cond, List, [], ◌∷◌, ◌++◌, map, Option, Some, None, Ok, IsPermutation, is_some, refl, sym, ap, subst, ◌∙◌, append-nil, Ordering, get_or, length, ◌+◌, ◌<◌, ap₂, arith}
use Rattle.std.specs.Cmp.Lexicographic.{nat_list_cmp_total}
use Rattle.std.specs.FinMap.{empty, same_map}
use Rattle.std.specs.List.{IsDistinct, AllByRecursion, AllAdjacentBelow}
use Rattle.std.specs.Map.{lookup}
use Rattle.std.specs.Ordering.{eq_by_cmp, is_lt}
use Rattle.std.specs.declared.cmp.Ordering.TheVariants.{Less, Equal, Greater}
use Rattle.std.proofs.lemmas.Cmp.{eq_by_cmp_equiv}
use Rattle.std.proofs.lemmas.List.{get_or-map, length-map}
use Rattle.std.proofs.lemmas.List.Sorted.{IsPermutation-sym, IsPermutation-trans, IsPermutation-map, IsPermutation-middle, IsPermutation-refl, Contains-permutation}
use Rattle.std.proofs.lemmas.Map.Keys.{IsDistinct-from_sorted, IsDistinct-IsPermutation, IsDistinct-head, IsDistinct-tail, sorted_from_all_adjacent}
use Rattle.std.proofs.lemmas.Map.Views.{Contains-from_lookup, lookup-from_Contains, tells_apart}
use Rattle.serde_json.specs.Data.{Data, Members, no_members, member}
use Rattle.host_names.specs.Path.{is_path, with_slash}
use Rattle.host_names.specs.declared.digests.Digest.{Digest}
use Rattle.site_state.specs.Files.{IsByPath}
use Rattle.host_api.specs.Bodies.{listed_in, files_in, with_one, with_all}
use Rattle.host_api.proofs.ListedFiles.{Entry, path_cmp, at, get-files_in, paths-IsAntisymmetric}

-- each entry is what its member lists, and no member is refused for itself
abbrev pub AreListed : Bool → Members → List Entry → Type 0
AreListed patch no_members [] = Unit {0}
AreListed patch no_members (e ∷ es) = ⊥
AreListed patch (member key value ms) [] = ⊥
AreListed patch (member key value ms) (e ∷ es) =
    (e.0 ≡ with_slash key) × (is_path (with_slash key) ≡ true) × (listed_in patch value ≡ Ok e.1) × AreListed patch ms es

-- what was collected of all members, where these are left
abbrev pub SoFar : Bool → (all left : Members) → List Entry → Type 0
SoFar patch all left done = (es : List Entry) → AreListed patch left es → AreListed patch all (done ++ es)

-- all of them were collected
pub finished : (patch : Bool) (all left : Members) (done : List Entry) → left ≡ no_members → SoFar patch all left done → AreListed patch all done
finished patch all left done none so = subst (AreListed patch all) (append-nil done) (so [] (subst (λ ms. AreListed patch ms []) (sym none) tt))

abbrev paths_of : List Entry → List (List ℕ)
paths_of = map (λ e. e.0)

abbrev same_path : List ℕ → List ℕ → Bool
same_path = eq_by_cmp path_cmp

-- no two entries have the same path
abbrev AreApart : List Entry → Type 0
AreApart es = IsDistinct same_path (paths_of es)

-- the entries, the last first, before others
abbrev onto : List Entry → List Entry → List Entry
onto [] done = done
onto (e ∷ es) done = onto es (e ∷ done)

onto-apart : (es done : List Entry) → AreApart (onto es done) → AreApart done
onto-apart [] done apart = apart
onto-apart (e ∷ es) done apart = IsDistinct-tail same_path e.0 (paths_of done) (onto-apart es (e ∷ done) apart)

onto-IsPermutation : (es done : List Entry) → IsPermutation (es ++ done) (onto es done)
onto-IsPermutation [] done = IsPermutation-refl done
onto-IsPermutation (e ∷ es) done =
    IsPermutation-trans _ _ _ (IsPermutation-sym _ _ (IsPermutation-middle es e done)) (onto-IsPermutation es (e ∷ done))

unlisted : (path : List ℕ) (files : List Entry) → AllByRecursion (λ q. same_path path q ≡ false) (paths_of files) → is_some (at files path) ≡ false
unlisted path [] other = refl
unlisted path (f ∷ files) other = ap (λ b. is_some (cond b (Some f.1) (at files path))) other.0 ∙ unlisted path files other.1

-- an entry more
one_more : (patch : Bool) (done : List Entry) (e : Entry) (text : List ℕ) (value : Data) → e.0 ≡ text → is_path text ≡ true → listed_in patch value ≡ Ok e.1
    → AreApart (e ∷ done) → with_one patch (files_in done) text value ≡ Ok (files_in (e ∷ done))
one_more patch done e text value same lawful good apart =
    let fresh = ap is_some (get-files_in done e.0) ∙ unlisted e.0 done (IsDistinct-head same_path e.0 (paths_of done) apart) in
    let at_path : with_one patch (files_in done) e.0 value ≡ Ok (files_in (e ∷ done)) = rw (subst (λ p. is_path p ≡ true) (sym same) lawful, fresh, good) refl in
    subst (λ p. with_one patch (files_in done) p value ≡ Ok (files_in (e ∷ done))) same at_path

-- all of them
all_more : (patch : Bool) (ms : Members) (es done : List Entry) → AreListed patch ms es → AreApart (onto es done)
    → with_all patch (files_in done) ms ≡ Ok (files_in (onto es done))
all_more patch no_members [] done listed apart = refl
all_more patch no_members (e ∷ es) done listed apart = absurd listed
all_more patch (member key value ms) [] done listed apart = absurd listed
all_more patch (member key value ms) (e ∷ es) done listed apart =
    let first = one_more patch done e (with_slash key) value listed.0 listed.1 listed.2 (onto-apart es (e ∷ done) apart) in
    rw first (all_more patch ms es (e ∷ done) listed.3 apart)

-- the order of entries doesn't matter where no two have the same path
at-permuted : (es fs : List Entry) → IsPermutation es fs → AreApart es → AreApart fs → (q : List ℕ) → at es q ≡ at fs q
at-permuted es fs moved apart apart2 q = by_found (lookup (same_path q) es) (lookup (same_path q) fs) refl refl
  where
    exact : (x y : List ℕ) → same_path x y ≡ true → x ≡ y
    exact = tells_apart paths-IsAntisymmetric

    there : (xs ys : List Entry) → IsPermutation xs ys → AreApart ys → (v : Option Digest) → lookup (same_path q) xs ≡ Some v → lookup (same_path q) ys ≡ Some v
    there xs ys m a v e = lookup-from_Contains (eq_by_cmp_equiv nat_list_cmp_total) q v ys a (Contains-permutation xs ys (q, v) m (Contains-from_lookup exact q v xs e))

    by_found : (r s : Option (Option Digest)) → lookup (same_path q) es ≡ r → lookup (same_path q) fs ≡ s → lookup (same_path q) es ≡ lookup (same_path q) fs
    by_found (Some v) s e f = e ∙ sym (there es fs moved apart2 v e)
    by_found None (Some w) e f = there fs es (IsPermutation-sym es fs moved) apart w f ∙ sym f
    by_found None None e f = e ∙ sym f

-- what the members list, sorted by path
pub all_listed : (patch : Bool) (ms : Members) (es files : List Entry) → AreListed patch ms es → IsPermutation es files → IsByPath files
    → with_all patch empty ms ≡ Ok (files_in files)
all_listed patch ms es files listed moved sorted =
    let around : IsPermutation (es ++ []) (onto es []) = onto-IsPermutation es [] in
    let turned : IsPermutation files (onto es []) = IsPermutation-trans _ _ _ (IsPermutation-sym _ _ moved) (subst (λ l. IsPermutation l (onto es [])) (append-nil es) around) in
    let apart : AreApart files = IsDistinct-from_sorted path_cmp (paths_of files) sorted in
    let apart2 : AreApart (onto es []) = IsDistinct-IsPermutation same_path (eq_by_cmp_equiv nat_list_cmp_total).symm (paths_of files) (paths_of (onto es []))
    (IsPermutation-map (λ e. e.0) files (onto es []) turned) apart in
    all_more patch ms es [] listed apart2
    ∙ ap Ok (same_map nat_list_cmp_total paths-IsAntisymmetric _ _ (λ q.
    get-files_in (onto es []) q ∙ sym (at-permuted files (onto es []) turned apart apart2 q) ∙ sym (get-files_in files q)))

-- ---- the look at neighbours

-- whether the one path is before the other
abbrev pub is_before : Entry → Entry → Bool
is_before one other = is_lt (path_cmp one.0 other.0)

less_from : (r : Ordering) → true ≡ is_lt r → r ≡ Less
less_from Less e = refl
less_from Equal e = cc e
less_from Greater e = cc e

nowhere : Entry
nowhere = ([], None)

pub rises : (files : List Entry) → AllAdjacentBelow (λ x y. true ≡ is_before x y) files (length files) → IsByPath files
rises files before = sorted_from_all_adjacent nat_list_cmp_total (paths_of files) [] (λ k within.
    let place : (j : ℕ) → j < length files → get_or (paths_of files) j [] ≡ (get_or files j nowhere).0 = λ j inside. get_or-map (λ (e : Entry). e.0) files j nowhere [] inside in
    let second : k + 1 < length files = omega (arith, within, length-map files (λ (e : Entry). e.0)) in
    let less : path_cmp (get_or files k nowhere).0 (get_or files (k + 1) nowhere).0 ≡ Less = less_from _ (before k nowhere second) in
    ap₂ path_cmp (place k (omega (arith, second))) (place (k + 1) second) ∙ less)
