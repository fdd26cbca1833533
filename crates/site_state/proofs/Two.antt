-- Lists of two.
use Rattle.std.proofs.Common.{◌≡◌, true, [], ◌∷◌, All, Ordering, Less, Equal, Greater, is_lt, refl}
use Rattle.std.specs.List.Sorted.{IsStrictlySortedBy}
use Rattle.std.proofs.lemmas.List.Elements.{All-from_recursion}

less : (o : Ordering) → is_lt o ≡ true → o ≡ Less
less Less e = refl
less Equal e = cc
less Greater e = cc

pub sorted_two : {K : Type 0} (cmp : K → K → Ordering) (a b : K) → is_lt (cmp a b) ≡ true → IsStrictlySortedBy cmp (a ∷ b ∷ [])
unfolding IsStrictlySortedBy
sorted_two cmp a b e = ((less (cmp a b) e, tt), (tt, tt))

pub all_two : {X : Type 0} (P : X → Type 0) (a b : X) → P a → P b → All P (a ∷ b ∷ [])
all_two P a b p q = All-from_recursion P (a ∷ b ∷ []) (p, (q, tt))
