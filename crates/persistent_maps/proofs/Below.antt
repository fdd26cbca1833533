-- The edits that are below a limit, and the others.
use Rattle.std.proofs.Common.{◌≡◌, true, false, cond, List, [], ◌∷◌, ◌++◌, Option, Some, None, Ordering, is_lt, refl, sym, ap, subst, ◌∙◌}
use Rattle.std.specs.Map.{keys_of}
use Rattle.std.proofs.lemmas.List.{append-nil}
use Rattle.std.proofs.lemmas.Map.Keys.{sorted_tail}
use Rattle.persistent_maps.specs.Merge.{before_key, from_key, begins_below, below, not_below}
use Rattle.persistent_maps.proofs.Parts.{Rise, Rise-left, Rise-right}

module _ {K X : Type 0} (R : K → K → Ordering) where
  before_key-append : (key : K) (es : List (K × X)) → before_key R key es ++ from_key R key es ≡ es
  before_key-append key [] = refl
  before_key-append key (e ∷ es) = elim (is_lt (R e.0 key)) as (λ b. cond b (e ∷ before_key R key es) [] ++ cond b (from_key R key es) (e ∷ es) ≡ e ∷ es) [
    | true ↦ ap (λ l. e ∷ l) (before_key-append key es)
    | false ↦ refl
  ]

  pub below-append : (limit : Option K) (es : List (K × X)) → below R limit es ++ not_below R limit es ≡ es
  below-append None es = append-nil es
  below-append (Some key) es = before_key-append key es

  pub Rise-below : (limit : Option K) (es : List (K × X)) → Rise R es → Rise R (below R limit es)
  Rise-below limit es rise = Rise-left R (below R limit es) (not_below R limit es) (subst (Rise R) (sym (below-append limit es)) rise)

  pub Rise-not_below : (limit : Option K) (es : List (K × X)) → Rise R es → Rise R (not_below R limit es)
  Rise-not_below limit es rise = Rise-right R (below R limit es) (not_below R limit es) (subst (Rise R) (sym (below-append limit es)) rise)

  -- a first edit below the limit is the first of those below it
  pub below-first : (limit : Option K) (es : List (K × X)) (e : K × X) (left : List (K × X)) → es ≡ e ∷ left → begins_below R limit es ≡ true → below R limit es ≡ e ∷ below R limit left
  below-first None es e left front begins = front
  below-first (Some key) es e left front begins =
      ap (before_key R key) front ∙ ap (λ b. cond b (e ∷ before_key R key left) []) (ap (begins_below R (Some key)) (sym front) ∙ begins)

  pub not_below-first : (limit : Option K) (es : List (K × X)) (e : K × X) (left : List (K × X)) → es ≡ e ∷ left → begins_below R limit es ≡ true → not_below R limit left ≡ not_below R limit es
  not_below-first None es e left front begins = refl
  not_below-first (Some key) es e left front begins =
      sym (ap (from_key R key) front ∙ ap (λ b. cond b (from_key R key left) (e ∷ left)) (ap (begins_below R (Some key)) (sym front) ∙ begins))

  pub Rise-after : (es : List (K × X)) (e : K × X) (left : List (K × X)) → es ≡ e ∷ left → Rise R es → Rise R left
  Rise-after es e left front rise = sorted_tail R e.0 (keys_of left) (subst (Rise R) front rise)
