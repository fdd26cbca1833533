-- Pairs whose keys strictly rise, in two parts.
use Rattle.std.proofs.Common.{◌≡◌, cond, List, [], ◌∷◌, ◌++◌, Some, None, Ordering, Less, Equal, is_eq, refl, sym, ap, ◌∙◌}
use Rattle.std.specs.FinMap.{find}
use Rattle.std.specs.Cmp.{IsTotalOrder}
use Rattle.std.specs.List.{AllByRecursion}
use Rattle.std.specs.List.Sorted.{IsStrictlySortedBy}
use Rattle.std.specs.Map.{keys_of}
use Rattle.std.proofs.lemmas.Cmp.{alike_right}
use Rattle.std.proofs.lemmas.Map.Keys.{sorted_head, sorted_tail}
use Rattle.persistent_maps.proofs.Entries.{greater_back}

module _ {K X : Type 0} (R : K → K → Ordering) where
  abbrev pub Rise : List (K × X) → Type 0
  Rise es = IsStrictlySortedBy R (keys_of es)

  -- the key is less than each of these
  abbrev pub Over : K → List (K × X) → Type 0
  Over x es = AllByRecursion (λ y. R x y ≡ Less) (keys_of es)

  -- each of these keys is less than the key
  abbrev pub Under : List (K × X) → K → Type 0
  Under es x = AllByRecursion (λ e. R e.0 x ≡ Less) es

  -- each key of the one is less than each of the other
  abbrev pub Apart : List (K × X) → List (K × X) → Type 0
  Apart xs ys = AllByRecursion (λ e. Over e.0 ys) xs

  Rise-cons : (e : K × X) (es : List (K × X)) → Over e.0 es → Rise es → Rise (e ∷ es)
  unfolding IsStrictlySortedBy
  Rise-cons e es over rise = (over, rise)

  pub Over-left : (x : K) (xs ys : List (K × X)) → Over x (xs ++ ys) → Over x xs
  Over-left x [] ys over = tt
  Over-left x (e ∷ xs) ys over = (over.0, Over-left x xs ys over.1)

  pub Over-right : (x : K) (xs ys : List (K × X)) → Over x (xs ++ ys) → Over x ys
  Over-right x [] ys over = over
  Over-right x (e ∷ xs) ys over = Over-right x xs ys over.1

  pub Rise-left : (xs ys : List (K × X)) → Rise (xs ++ ys) → Rise xs
  unfolding IsStrictlySortedBy
  Rise-left [] ys rise = tt
  Rise-left (e ∷ xs) ys rise = Rise-cons e xs (Over-left e.0 xs ys (sorted_head R e.0 (keys_of (xs ++ ys)) rise)) (Rise-left xs ys (sorted_tail R e.0 (keys_of (xs ++ ys)) rise))

  pub Rise-right : (xs ys : List (K × X)) → Rise (xs ++ ys) → Rise ys
  Rise-right [] ys rise = rise
  Rise-right (e ∷ xs) ys rise = Rise-right xs ys (sorted_tail R e.0 (keys_of (xs ++ ys)) rise)

  pub Apart-append : (xs ys : List (K × X)) → Rise (xs ++ ys) → Apart xs ys
  Apart-append [] ys rise = tt
  Apart-append (e ∷ xs) ys rise = (Over-right e.0 xs ys (sorted_head R e.0 (keys_of (xs ++ ys)) rise), Apart-append xs ys (sorted_tail R e.0 (keys_of (xs ++ ys)) rise))

  -- what is before pairs is under the first of them
  pub Under-first : (xs : List (K × X)) (y : K × X) (ys : List (K × X)) → Apart xs (y ∷ ys) → Under xs y.0
  Under-first [] y ys apart = tt
  Under-first (e ∷ xs) y ys apart = (apart.0.0, Under-first xs y ys apart.1)

  module _ (o : IsTotalOrder R) where
    pub Over-less : (x y : K) (es : List (K × X)) → R x y ≡ Less → Over y es → Over x es
    Over-less x y [] less over = tt
    Over-less x y (e ∷ es) less over = (o.trans x y e.0 less over.0, Over-less x y es less over.1)

    pub Under-less : (es : List (K × X)) (x y : K) → R x y ≡ Less → Under es x → Under es y
    Under-less [] x y less under = tt
    Under-less (e ∷ es) x y less under = (o.trans e.0 x y under.0 less, Under-less es x y less under.1)

    -- a key that ties with the bound
    pub Under-tied : (es : List (K × X)) (x y : K) → R x y ≡ Equal → Under es x → Under es y
    Under-tied [] x y tie under = tt
    Under-tied (e ∷ es) x y tie under = (sym (alike_right o x y e.0 tie) ∙ under.0, Under-tied es x y tie under.1)

    -- a key that is over all pairs, or under them, is not among them
    pub find-over : (q : K) (es : List (K × X)) → Over q es → find R q es ≡ None
    find-over q [] over = refl
    find-over q (e ∷ es) over = ap (λ r. cond (is_eq r) (Some e.1) (find R q es)) over.0 ∙ find-over q es over.1

    pub find-past : (q : K) (xs ys : List (K × X)) → Under xs q → find R q (xs ++ ys) ≡ find R q ys
    find-past q [] ys under = refl
    find-past q (e ∷ xs) ys under = ap (λ r. cond (is_eq r) (Some e.1) (find R q (xs ++ ys))) (greater_back o e.0 q under.0) ∙ find-past q xs ys under.1

    pub find-before : (q : K) (xs ys : List (K × X)) → Over q ys → find R q (xs ++ ys) ≡ find R q xs
    find-before q [] ys over = find-over q ys over
    find-before q (e ∷ xs) ys over = ap (cond (is_eq (R q e.0)) (Some e.1)) (find-before q xs ys over)
