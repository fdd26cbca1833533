-- Lists by path that grow at their end.
use Rattle.std.proofs.Common.{◌≡◌, ℕ, ◌-◌, ◌<◌, inl, inr, Bool, true, List, [], ◌∷◌, ◌++◌, map, length, get_or, refl, sym, ap, subst, ◌∙◌, arith}
use Rattle.std.specs.List.{AllByRecursion}
use Rattle.std.specs.List.Sorted.{IsStrictlySortedBy}
use Rattle.std.specs.Cmp.Lexicographic.{slice_cmp}
use Rattle.std.specs.Ordering.{nat_cmp, is_lt}
use Rattle.std.specs.declared.cmp.Ordering.{Ordering}
use Rattle.std.specs.declared.cmp.Ordering.TheVariants.{Less, Equal, Greater}
use Rattle.std.proofs.lemmas.Bool.{cases_lt}
use Rattle.std.proofs.lemmas.Cmp.{nat_list_cmp_total}
use Rattle.std.proofs.lemmas.List.{get_or_default}
use Rattle.std.proofs.lemmas.List.Elements.{recursion_from_All}
use Rattle.site_state.specs.Files.{Paths, IsByPath}
use Rattle.persistent_maps.proofs.Entries.{key_at-less}

module _ {X : Type 0} where
  before_new : (p q : List ℕ) (x : X) (es : Paths X) → AllByRecursion (λ k. slice_cmp nat_cmp p k ≡ Less) (map (λ e. e.0) es) → slice_cmp nat_cmp p q ≡ Less
      → AllByRecursion (λ k. slice_cmp nat_cmp p k ≡ Less) (map (λ e. e.0) (es ++ (q, x) ∷ []))
  before_new p q x [] h less = (less, tt)
  before_new p q x (e ∷ es) h less = (h.0, before_new p q x es h.1 less)

  behind_all : (es : Paths X) (q : List ℕ) (x : X) → IsByPath es → AllByRecursion (λ e. slice_cmp nat_cmp e.0 q ≡ Less) es → IsByPath (es ++ (q, x) ∷ [])
  unfolding IsStrictlySortedBy
  behind_all [] q x sorted below = (tt, tt)
  behind_all (e ∷ es) q x sorted below = (before_new e.0 q x es sorted.0 below.0, behind_all es q x sorted.1 below.1)

  -- a path after the last goes to the end
  pub by_path_push : (es : Paths X) (q : List ℕ) (x : X) → IsByPath es → ((d : List ℕ × X) → 0 < length es → slice_cmp nat_cmp (get_or es (length es - 1) d).0 q ≡ Less)
      → IsByPath (es ++ (q, x) ∷ [])
  by_path_push es q x sorted last =
      behind_all es q x sorted (recursion_from_All (λ (e : List ℕ × X). slice_cmp nat_cmp e.0 q ≡ Less) es (λ k d within. elim (cases_lt k (length es - 1)) [
        | inl earlier ↦
            nat_list_cmp_total.trans (get_or es k d).0 (get_or es (length es - 1) d).0 q
            (key_at-less (slice_cmp nat_cmp) es k (length es - 1) d sorted earlier (omega arith)) (last d (omega arith))
        | inr latest ↦
            let same : length es - 1 ≡ k = omega arith in
            let P : ℕ → Type 0 = λ i. slice_cmp nat_cmp (get_or es i d).0 q ≡ Less in
            subst P same (last d (omega arith))
      ]))

  pub by_path_nil : (es : Paths X) → es ≡ [] → IsByPath es
  unfolding IsStrictlySortedBy
  by_path_nil es none = let P : Paths X → Type 0 = IsByPath in subst P (sym none) tt

  pub behind_nothing : (es : Paths X) (q : List ℕ) (x : X) → length es ≡ 0 → IsByPath es → IsByPath (es ++ (q, x) ∷ [])
  behind_nothing es q x none sorted = by_path_push es q x sorted (λ d some. absurd (omega arith))

  pub behind_last : (es : Paths X) (q : List ℕ) (x : X) (last : List ℕ × X) → 0 < length es → slice_cmp nat_cmp (get_or es (length es - 1) last).0 q ≡ Less → IsByPath es
      → IsByPath (es ++ (q, x) ∷ [])
  behind_last es q x last some less sorted = by_path_push es q x sorted (λ d _.
      ap (λ (e : List ℕ × X). slice_cmp nat_cmp e.0 q) (get_or_default es (length es - 1) d last (omega arith)) ∙ less)

is_less : (o : Ordering) → is_lt o ≡ true → o ≡ Less
is_less Less e = refl
is_less Equal e = cc e
is_less Greater e = cc e

pub less_by_test : (p q : List ℕ) (o : Ordering) (b : Bool) → o ≡ slice_cmp nat_cmp p q → b ≡ is_lt o → b ≡ true → slice_cmp nat_cmp p q ≡ Less
less_by_test p q o b is tested true_is = sym is ∙ is_less o (sym tested ∙ true_is)
