-- What is needed of each digest, and what that says of the entries.
use Rattle.std.proofs.Common.{◌≡◌, ◌≢◌, ◌⊎◌, ◌↔◌, ◌∙◌, ◌||◌, ℕ, zero, suc, ◌+◌, ◌<◌, ◌≤◌, List, [], ◌∷◌, Bool, true, false, IsTrue, IsSome, cond, Option, Some, None, Contains, Equal, inl, inr, ◌++◌, ap, arith, filter_map, get_or, length, map, refl, slice_get, subst, sym, take}
use Rattle.std.specs.BTreeMap.{BTreeMap, get, is_at}
use Rattle.std.specs.List.{list_any}
use Rattle.std.specs.List.Sorted.{IsStrictlySortedBy}
use Rattle.std.specs.Map.{keys_of, lookup}
use Rattle.std.specs.Option.{option_map_or}
use Rattle.std.specs.Ordering.{is_eq}
use Rattle.std.specs.declared.cmp.Ordering.{Ordering}
use Rattle.std.specs.declared.cmp.Ordering.TheVariants.{Less, Greater}
use Rattle.std.proofs.lemmas.Cmp.{tied_itself}
use Rattle.std.proofs.lemmas.List.Folds.{list_any_more}
use Rattle.host_names.specs.Cells.{cell_cmp}
use Rattle.host_names.specs.CellOrder.{cell_cmp_total, cell_cmp-IsAntisymmetric}
use Rattle.host_names.specs.Digests.{digest_cmp, digest_cmp_total, digest_cmp-IsAntisymmetric}
use Rattle.host_names.specs.declared.cells.Cell.{Cell}
use Rattle.host_names.specs.declared.cells.Cell.TheVariants as cell
use Rattle.host_names.specs.declared.digests.Digest.{Digest}
use Rattle.host_names.specs.declared.names.SiteName.{SiteName}
use Rattle.site_state.specs.Files.{Paths}
use Rattle.site_change.specs.declared.entries.Entry.{Entry}
use Rattle.host_opening.specs.Needs.{HasPublished, is_listed, more, need_if, need_in, publishes}

is_eq-true : (o : Ordering) → is_eq o ≡ true → o ≡ Equal
is_eq-true Less e = cc e
is_eq-true Equal e = refl
is_eq-true Greater e = cc e

pub same_digest : (a b : Digest) → is_at (digest_cmp a) b ≡ true → a ≡ b
same_digest a b e = digest_cmp-IsAntisymmetric a b (is_eq-true (digest_cmp a b) e)

pub same_cells : (a b : Cell) → is_at (cell_cmp a) b ≡ true → a ≡ b
same_cells a b e = cell_cmp-IsAntisymmetric a b (is_eq-true (cell_cmp a b) e)

pub at_itself : (a : Digest) → is_at (digest_cmp a) a ≡ true
at_itself a = ap is_eq (tied_itself digest_cmp_total a)

pub cell_at_itself : (a : Cell) → is_at (cell_cmp a) a ≡ true
cell_at_itself a = ap is_eq (tied_itself cell_cmp_total a)

-- ---- what is published

pub cond_or : (b x : Bool) → cond b true x ≡ (b || x)
cond_or true x = refl
cond_or false x = refl

pub set_more : (q c : Cell) (published : Option Cell) (old new : Bool) → Some c ≡ published → new ≡ cond (is_at (cell_cmp c) q) true old
    → new ≡ (option_map_or (λ p. is_at (cell_cmp p) q) published false || old)
set_more q c published old new there is = is ∙ cond_or (is_at (cell_cmp c) q) old ∙ ap (λ o. option_map_or (λ p. is_at (cell_cmp p) q) o false || old) there

or_flips : (a b : Bool) → (a || b) ≡ (b || a)
or_flips true true = refl
or_flips true false = refl
or_flips false true = refl
or_flips false false = refl

pub published_more : (log : List Entry) (n m : ℕ) (entry : Entry) (c : Cell) (old new : Bool) → take m log ≡ take n log ++ entry ∷ []
    → new ≡ (publishes c entry || old) → old ≡ list_any (publishes c) (take n log) → new ≡ list_any (publishes c) (take m log)
published_more log n m entry c old new more is was =
    is ∙ ap (λ b. publishes c entry || b) was ∙ or_flips (publishes c entry) (list_any (publishes c) (take n log))
    ∙ sym (any_last (publishes c) (take n log) entry) ∙ ap (list_any (publishes c)) (sym more)
  where
    any_last : (p : Entry → Bool) (xs : List Entry) (x : Entry) → list_any p (xs ++ x ∷ []) ≡ (list_any p xs || p x)
    any_last p [] x = or_flips (p x) false
    any_last p (y ∷ xs) x = elim (p y) as (λ b. (b || list_any p (xs ++ x ∷ [])) ≡ ((b || list_any p xs) || p x)) [ true ↦ refl | false ↦ any_last p xs x ]

-- ---- what is needed

pub listed_more : (digest q : Digest) (must now : Bool) (before : Option Bool) (listed : Option Digest) (old : Digest → Option Bool) (new : Option Bool) → listed ≡ Some digest
    → before ≡ old digest → Some now ≡ more (Some must) before → new ≡ cond (is_at (digest_cmp digest) q) (Some now) (old q) → new ≡ more (need_if (is_listed q listed) must) (old q)
listed_more digest q must now before listed old new here was is got =
    subst (λ l. new ≡ more (need_if (is_listed q l) must) (old q)) (sym here)
    (elim (is_at (digest_cmp digest) q) as (λ b. is_at (digest_cmp digest) q ≡ b → new ≡ cond b (Some now) (old q) → new ≡ more (need_if b must) (old q)) [
      | true ↦ λ tie got. got ∙ is ∙ ap (more (Some must)) (was ∙ ap old (same_digest digest q tie))
      | false ↦ λ tie got. got
    ] refl got)

file_more : (must one some : Bool) (x : Option Bool) → more (need_if one must) (more (need_if some must) x) ≡ more (need_if (some || one) must) x
file_more must false true x = refl
file_more must false false x = refl
file_more must true false x = refl
file_more true true true None = refl
file_more false true true None = refl
file_more true true true (Some b) = refl
file_more false true true (Some b) = refl

pub files_more : (must : Bool) (files : Paths (Option Digest)) (i : ℕ) (item : List ℕ × Option Digest) (q : Digest) (first old new : Option Bool) → i < length files → item ≡ get_or files i item
    → new ≡ more (need_if (is_listed q item.1) must) old → old ≡ more (need_in must (take i files) q) first → new ≡ more (need_in must (take (i + 1) files) q) first
files_more must files i item q first old new within here is was =
    let p : List ℕ × Option Digest → Bool = λ f. is_listed q f.1 in
    let any : list_any p (take (i + 1) files) ≡ (list_any p (take i files) || p item) = list_any_more p files i item within ∙ ap (λ f. list_any p (take i files) || p f) (sym here) in
    is ∙ ap (more (need_if (p item) must)) was ∙ file_more must (p item) (list_any p (take i files)) first ∙ ap (λ b. more (need_if b must) first) (sym any)
