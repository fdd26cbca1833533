-- The digests that are missing, in order, and the least of them.
use Rattle.std.proofs.Common.{◌≡◌, ◌⊎◌, inl, inr, ⊎_elim, ℕ, zero, suc, ◌+◌, ◌<◌, Bool, true, false, cond, List, [], ◌∷◌, length, get_or, drop, take, option_to_list, ◌++◌, filter, filter_map, Option, Some, None, IsSome, Contains, IsPermutation, Ordering, Less, Equal, Greater, is_gt, is_lt, refl, sym, ap, subst, ◌∙◌, arith}
use Rattle.std.specs.List.{dedup, slice_get, cons_option, reduce}
use Rattle.std.specs.List.Sorted.{IsSorted}
use Rattle.std.specs.Ordering.{ordering_reverse, ord_min}
use Rattle.std.specs.Cmp.Lexicographic.{texts_ties}
use Rattle.std.proofs.lemmas.Bool.{false≢true}
use Rattle.std.proofs.lemmas.Cmp.{upto, tied_itself}
use Rattle.std.proofs.lemmas.List.{at_drop_more, take_more}
use Rattle.std.proofs.lemmas.List.Elements.{All-from_recursion, All-contains, filter_map-append}
use Rattle.std.proofs.lemmas.Map.Keys.{sorted_head}
use Rattle.std.proofs.lemmas.List.Kept.{IsStrictlySortedBy-dedup, Contains-dedup, Contains-from_dedup}
use Rattle.std.proofs.lemmas.List.Sorted.{Contains-permutation, IsPermutation-sym}
use Rattle.byte_view.specs.Contents.{Contents}
use Rattle.host_names.specs.Digests.{digest_cmp, digest_cmp_total}
use Rattle.host_names.specs.declared.digests.Digest.{Digest}
use Rattle.site_state.specs.Files.{Paths}
use Rattle.site_state.specs.Missing.{AreMissing, digests_of, is_lacking, lesser, if_lacking, least_missing_of, IsLeastMissing}
use Rattle.site_state.specs.SameValues.{digest_eq-decides, digest_eq-equiv}
use Rattle.site_state.specs.Values.{digest_eq}

module _ {X : Type 0} where
  pub contains_cases : (x y : X) (xs : List X) → Contains (x ∷ xs) y → (x ≡ y) ⊎ Contains xs y
  contains_cases x y xs (zero, lt, at) = inl at
  contains_cases x y xs (suc k, lt, at) = inr (k, omega (arith, lt), at)

  pub contains_later : (x y : X) (xs : List X) → Contains xs y → Contains (x ∷ xs) y
  contains_later x y xs (k, lt, at) = (suc k, omega (arith, lt), at)

  pub contains_here : (x y : X) (xs : List X) → x ≡ y → Contains (x ∷ xs) y
  contains_here x y xs e = (zero, omega arith, e)

  -- what a filter keeps is in the list, and passes
  pub Contains-from_filter : (p : X → Bool) (xs : List X) (y : X) → Contains (filter p xs) y → Contains xs y × (p y ≡ true)
  Contains-from_filter p [] y h = absurd (omega (arith, h.1))
  Contains-from_filter p (x ∷ xs) y h = elim (p x) as (λ b. p x ≡ b → Contains (cond b (x ∷ filter p xs) (filter p xs)) y → Contains (x ∷ xs) y × (p y ≡ true)) [
    | true ↦ λ e h. ⊎_elim
        (λ same. (contains_here x y xs same, ap p (sym same) ∙ e))
        (λ rest. let kept = Contains-from_filter p xs y rest in (contains_later x y xs kept.0, kept.1))
        (contains_cases x y (filter p xs) h)
    | false ↦ λ e h. let kept = Contains-from_filter p xs y h in (contains_later x y xs kept.0, kept.1)
  ] refl h

  -- and what is in the list and passes is kept
  pub Contains-filter : (p : X → Bool) (xs : List X) (y : X) → Contains xs y → p y ≡ true → Contains (filter p xs) y
  Contains-filter p [] y h pass = absurd (omega (arith, h.1))
  Contains-filter p (x ∷ xs) y h pass = ⊎_elim
      (λ same. let test : p x ≡ true = ap p same ∙ pass in subst (λ b. Contains (cond b (x ∷ filter p xs) (filter p xs)) y) (sym test) (contains_here x y (filter p xs) same))
      (λ rest.
      let kept = Contains-filter p xs y rest pass in
      elim (p x) as (λ b. Contains (cond b (x ∷ filter p xs) (filter p xs)) y) [ true ↦ contains_later x y (filter p xs) kept | false ↦ kept ])
      (contains_cases x y xs h)

-- one item more
module _ {X Y : Type 0} (h : X → Option Y) where
  one_option : (o : Option Y) → cons_option o [] ≡ option_to_list o
  one_option None = refl
  one_option (Some y) = refl

  pub filter_map_more : (xs : List X) (i : ℕ) (x : X) (ys : List Y) → i < length xs → x ≡ get_or xs i x → ys ≡ filter_map h (take i xs) → ys ++ option_to_list (h x) ≡ filter_map h (take (i + 1) xs)
  filter_map_more xs i x ys lt at is =
      ap (λ l. l ++ option_to_list (h x)) is ∙ ap (λ l. filter_map h (take i xs) ++ l) (sym (one_option (h x))) ∙ sym (filter_map-append h (take i xs) (x ∷ []))
      ∙ ap (λ z. filter_map h (take i xs ++ z ∷ [])) at ∙ ap (filter_map h) (sym (take_more xs i x lt))

-- the lacking among what is listed, in one step or two
are_filtered : (contents : Contents) (files : Paths (Option Digest)) → filter_map (λ f. if_lacking contents f.1) files ≡ filter (is_lacking contents) (digests_of files)
are_filtered contents [] = refl
are_filtered contents ((path, None) ∷ files) = are_filtered contents files
are_filtered contents ((path, Some digest) ∷ files) =
    elim (is_lacking contents digest) as (λ t. cons_option (cond t (Some digest) None) (filter_map (λ f. if_lacking contents f.1) files)
    ≡ cond t (digest ∷ filter (is_lacking contents) (digests_of files)) (filter (is_lacking contents) (digests_of files))) [
      | true ↦ ap (λ l. digest ∷ l) (are_filtered contents files)
      | false ↦ are_filtered contents files
    ]

-- what is left of the lacking digests after a sort and a `dedup`
pub AreMissing-from_sort : (contents : Contents) (files : Paths (Option Digest)) (listed sorted digests : List Digest) → listed ≡ filter_map (λ f. if_lacking contents f.1) files → IsPermutation listed sorted → IsSorted digest_cmp sorted
    → digests ≡ dedup digest_eq sorted → AreMissing contents files digests
AreMissing-from_sort contents files listed sorted digests found moved in_order is =
    let is_listed : listed ≡ filter (is_lacking contents) (digests_of files) = found ∙ are_filtered contents files in record {
      rising = rw is (IsStrictlySortedBy-dedup digest_cmp_total (λ x y. texts_ties x.0 y.0) sorted in_order);
      exactly = λ digest. (
        (λ h.
            let in_sorted = Contains-from_dedup digest_eq sorted digest (rw is at h) in
            let in_listed = Contains-permutation sorted listed digest (IsPermutation-sym listed sorted moved) in_sorted in
            Contains-from_filter (is_lacking contents) (digests_of files) digest (rw is_listed at in_listed)),
        (λ h.
            let in_listed = Contains-filter (is_lacking contents) (digests_of files) digest h.0 h.1 in
            let in_sorted = Contains-permutation listed sorted digest moved (rw is_listed in_listed) in
            rw is (Contains-dedup digest_eq-equiv (λ x y. (digest_eq-decides x y).0) sorted digest in_sorted)),
      );
    }

greater_than : (x y : Digest) → is_gt (digest_cmp x y) ≡ true → digest_cmp y x ≡ Less
greater_than x y e = digest_cmp_total.antisymm y x ∙ ap ordering_reverse (greater (digest_cmp x y) e)
  where
    greater : (o : Ordering) → is_gt o ≡ true → o ≡ Greater
    greater Less e = cc
    greater Equal e = cc
    greater Greater e = refl

-- above one that is above a third
gt_trans : (a b c : Digest) → is_gt (digest_cmp a b) ≡ true → is_gt (digest_cmp b c) ≡ true → is_gt (digest_cmp a c) ≡ true
gt_trans a b c over_b over_c =
    ap is_gt (digest_cmp_total.antisymm a c ∙ ap ordering_reverse (digest_cmp_total.trans c b a (greater_than b c over_c) (greater_than a b over_b)))

pub lesser-none : (a : Option Digest) → lesser a None ≡ a
lesser-none None = refl
lesser-none (Some a) = refl

pub lesser_assoc : (a b c : Option Digest) → lesser (lesser a b) c ≡ lesser a (lesser b c)
lesser_assoc None b c = refl
lesser_assoc (Some a) None c = refl
lesser_assoc (Some a) (Some b) None = lesser-none (lesser (Some a) (Some b))
lesser_assoc (Some a) (Some b) (Some c) =
    elim (is_gt (digest_cmp a b)) as (λ t. is_gt (digest_cmp a b) ≡ t → lesser (cond t (Some b) (Some a)) (Some c) ≡ lesser (Some a) (lesser (Some b) (Some c))) [
      | true ↦ λ over. elim (is_gt (digest_cmp b c)) as (λ t. is_gt (digest_cmp b c) ≡ t → cond t (Some c) (Some b) ≡ lesser (Some a) (cond t (Some c) (Some b))) [
        | true ↦ λ over_c. sym (ap (λ t. cond t (Some c) (Some a)) (gt_trans a b c over over_c))
        | false ↦ λ _. sym (ap (λ t. cond t (Some b) (Some a)) over)
      ] refl
      | false ↦ λ not_over. elim (is_gt (digest_cmp b c)) as (λ t. is_gt (digest_cmp b c) ≡ t → lesser (Some a) (Some c) ≡ lesser (Some a) (cond t (Some c) (Some b))) [
        | true ↦ λ _. refl
        | false ↦ λ not_over_c. ap (λ t. cond t (Some c) (Some a)) (upto digest_cmp_total a b c not_over not_over_c) ∙ sym (ap (λ t. cond t (Some b) (Some a)) not_over)
      ] refl
    ] refl

lesser-min : (a b : Digest) → lesser (Some a) (Some b) ≡ Some (ord_min digest_cmp a b)
lesser-min a b = by_order (digest_cmp a b) ∙ ap (λ r. Some (cond (is_lt r) b a)) (sym (digest_cmp_total.antisymm b a))
  where
    by_order : (r : Ordering) → cond (is_gt r) (Some b) (Some a) ≡ Some (cond (is_lt (ordering_reverse r)) b a)
    by_order Less = refl
    by_order Equal = refl
    by_order Greater = refl

-- the least of some digests is the lesser of the first and of the least of the others
least-first : (d : Digest) (ds : List Digest) → reduce (ord_min digest_cmp) (d ∷ ds) ≡ lesser (Some d) (reduce (ord_min digest_cmp) ds)
least-first d [] = refl
least-first d (e ∷ ds) =
    let others = reduce (ord_min digest_cmp) ds in
    least-first (ord_min digest_cmp d e) ds ∙ ap (λ o. lesser o others) (sym (lesser-min d e))
    ∙ lesser_assoc (Some d) (Some e) others ∙ ap (lesser (Some d)) (sym (least-first e ds))

-- one file more is listed
pub least_missing-cons : (contents : Contents) (f : List ℕ × Option Digest) (files : Paths (Option Digest))
    → least_missing_of contents (f ∷ files) ≡ lesser (if_lacking contents f.1) (least_missing_of contents files)
least_missing-cons contents (path, None) files = refl
least_missing-cons contents (path, Some digest) files =
    let rest = filter (is_lacking contents) (digests_of files) in
    elim (is_lacking contents digest) as (λ t. reduce (ord_min digest_cmp) (cond t (digest ∷ rest) rest) ≡ lesser (cond t (Some digest) None) (reduce (ord_min digest_cmp) rest)) [
      | true ↦ least-first digest rest
      | false ↦ refl
    ]

-- a step of a loop that keeps the least digest so far
pub least_step : (contents : Contents) (items files : Paths (Option Digest)) (i : ℕ) (item : List ℕ × Option Digest) (least next : Option Digest) → items ≡ files → i < length items → item ≡ get_or items i item
    → next ≡ lesser least (if_lacking contents item.1) → lesser next (least_missing_of contents (drop (i + 1) files)) ≡ lesser least (least_missing_of contents (drop i files))
least_step contents items files i item least next same lt at is =
    let rest = least_missing_of contents (drop (i + 1) files) in
    let within : i < length files = subst (λ l. i < length l) same lt in
    let here : item ≡ get_or files i item = at ∙ ap (λ l. get_or l i item) same in
    ap (λ o. lesser o rest) is ∙ lesser_assoc least (if_lacking contents item.1) rest
    ∙ sym (ap (lesser least) (at_drop_more (least_missing_of contents) files i item within ∙ least_missing-cons contents (get_or files i item) (drop (i + 1) files) ∙ ap (λ (e : List ℕ × Option Digest). lesser (if_lacking contents e.1) rest) (sym here)))

-- of two digests the lesser is there where either is
pub some_left : (a b : Option Digest) → IsSome a → IsSome (lesser a b)
some_left None b h = cc
some_left (Some a) None h = refl
some_left (Some a) (Some b) h = elim (is_gt (digest_cmp a b)) as (λ t. IsSome (cond t (Some b) (Some a))) [ true ↦ refl | false ↦ refl ]

some_right : (a b : Option Digest) → IsSome b → IsSome (lesser a b)
some_right None b h = h
some_right (Some a) None h = cc
some_right (Some a) (Some b) h = some_left (Some a) (Some b) refl

-- where a file at some place is lacking, one is missing
pub lacking_at : (contents : Contents) (files : Paths (Option Digest)) (k : ℕ) (d : List ℕ × Option Digest) → k < length files → d ≡ get_or files k d
    → IsSome (if_lacking contents d.1) → IsSome (least_missing_of contents files)
lacking_at contents [] k d lt is some = absurd (omega arith)
lacking_at contents (f ∷ files) zero d lt is some =
    let P : Option Digest → Type 0 = IsSome in
    subst P (sym (least_missing-cons contents f files))
    (some_left (if_lacking contents f.1) (least_missing_of contents files) (subst (λ (e : List ℕ × Option Digest). IsSome (if_lacking contents e.1)) is some))
lacking_at contents (f ∷ files) (suc k) d lt is some =
    let P : Option Digest → Type 0 = IsSome in
    subst P (sym (least_missing-cons contents f files))
    (some_right (if_lacking contents f.1) (least_missing_of contents files) (lacking_at contents files k d (omega arith) is some))

not_gt_itself : (d : Digest) → is_gt (digest_cmp d d) ≡ false
not_gt_itself d = ap is_gt (tied_itself digest_cmp_total d)

-- a path more in front, where what is listed there is lacking, known, or a removal
module _ (contents : Contents) (path : List ℕ) (files : Paths (Option Digest)) where
  past_removal : (rest : Option Digest) → IsLeastMissing contents files rest → IsLeastMissing contents ((path, None) ∷ files) rest
  past_removal None least = least
  past_removal (Some m) least = least

  past_known : (digest : Digest) (rest : Option Digest) → is_lacking contents digest ≡ false → IsLeastMissing contents files rest → IsLeastMissing contents ((path, Some digest) ∷ files) rest
  past_known digest None known least = λ d h lacking. ⊎_elim
      (λ same. false≢true (sym known ∙ ap (is_lacking contents) same ∙ lacking))
      (λ later. least d later lacking)
      (contains_cases digest d (digests_of files) h)
  past_known digest (Some m) known least = (
    contains_later digest m (digests_of files) least.0,
    least.1,
    λ d h lacking. ⊎_elim
        (λ same. absurd (false≢true (sym known ∙ ap (is_lacking contents) same ∙ lacking)))
        (λ later. least.2 d later lacking)
        (contains_cases digest d (digests_of files) h),
  )

  with_lacking : (digest : Digest) (rest : Option Digest) → is_lacking contents digest ≡ true → IsLeastMissing contents files rest
      → IsLeastMissing contents ((path, Some digest) ∷ files) (lesser (Some digest) rest)
  with_lacking digest None lacking least = (
    contains_here digest digest (digests_of files) refl,
    lacking,
    λ d h missing. ⊎_elim
        (λ same. subst (λ x. is_gt (digest_cmp digest x) ≡ false) same (not_gt_itself digest))
        (λ later. absurd (least d later missing))
        (contains_cases digest d (digests_of files) h),
  )
  with_lacking digest (Some m) lacking least = elim (is_gt (digest_cmp digest m)) as (λ t. is_gt (digest_cmp digest m) ≡ t → IsLeastMissing contents ((path, Some digest) ∷ files) (cond t (Some m) (Some digest))) [
    | true ↦ λ above. (
      contains_later digest m (digests_of files) least.0,
      least.1,
      λ d h missing. ⊎_elim
          (λ same. subst (λ x. is_gt (digest_cmp m x) ≡ false) same (ap is_gt (greater_than digest m above)))
          (λ later. least.2 d later missing)
          (contains_cases digest d (digests_of files) h),
    )
    | false ↦ λ below. (
      contains_here digest digest (digests_of files) refl,
      lacking,
      λ d h missing. ⊎_elim
          (λ same. subst (λ x. is_gt (digest_cmp digest x) ≡ false) same (not_gt_itself digest))
          (λ later. upto digest_cmp_total digest m d below (least.2 d later missing))
          (contains_cases digest d (digests_of files) h),
    )
  ] refl

  with_path : (listed rest : Option Digest) → IsLeastMissing contents files rest → IsLeastMissing contents ((path, listed) ∷ files) (lesser (if_lacking contents listed) rest)
  with_path None rest least = past_removal rest least
  with_path (Some digest) rest least =
      elim (is_lacking contents digest) as (λ t. is_lacking contents digest ≡ t → IsLeastMissing contents ((path, Some digest) ∷ files) (lesser (cond t (Some digest) None) rest)) [
        | false ↦ λ known. past_known digest rest known least
        | true ↦ λ lacking. with_lacking digest rest lacking least
      ] refl

pub IsLeast-least_missing_of : (contents : Contents) (files : Paths (Option Digest)) → IsLeastMissing contents files (least_missing_of contents files)
IsLeast-least_missing_of contents [] = λ d h _. omega (arith, h.1)
IsLeast-least_missing_of contents (e ∷ files) =
    subst (IsLeastMissing contents (e ∷ files)) (sym (least_missing-cons contents e files))
    (with_path contents e.0 files e.1 (least_missing_of contents files) (IsLeast-least_missing_of contents files))

-- the first of the missing digests is the least of them
first_is_least : (contents : Contents) (files : Paths (Option Digest)) (digests : List Digest) (least : Option Digest) → IsLeastMissing contents files least → AreMissing contents files digests → slice_get digests 0 ≡ least
first_is_least contents files [] None least are = refl
first_is_least contents files [] (Some m) least are = let h = (are.exactly m).1 (least.0, least.1) in absurd (omega (arith, h.1))
first_is_least contents files (x ∷ xs) None least are =
    let h = (are.exactly x).0 (contains_here x x xs refl) in
    absurd (least x h.0 h.1)
first_is_least contents files (x ∷ xs) (Some m) least are =
    let here = (are.exactly x).0 (contains_here x x xs refl) in
    ⊎_elim
    (λ same. ap Some same)
    (λ later.
    let less = All-contains (λ y. digest_cmp x y ≡ Less) xs m (All-from_recursion (λ y. digest_cmp x y ≡ Less) xs (sorted_head digest_cmp x xs are.rising)) later in
    let above : is_gt (digest_cmp m x) ≡ true = ap is_gt (digest_cmp_total.antisymm m x ∙ ap ordering_reverse less) in
    absurd (false≢true (sym (least.2 x here.0 here.1) ∙ above)))
    (contains_cases x m xs ((are.exactly m).1 (least.0, least.1)))

pub slice_get-missing : (contents : Contents) (files : Paths (Option Digest)) (digests : List Digest) → AreMissing contents files digests → slice_get digests 0 ≡ least_missing_of contents files
slice_get-missing contents files digests are = first_is_least contents files digests (least_missing_of contents files) (IsLeast-least_missing_of contents files) are
