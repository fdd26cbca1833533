-- What is posted after a number was written under some keys.
use Rattle.std.proofs.Common.{◌≡◌, ℕ, ◌==◌, Bool, true, false, cond, ◌&&◌, ◌||◌, List, [], ◌∷◌, Option, Less, is_some, eqb, arith, refl, sym, ap, subst, ◌∙◌}
use Rattle.std.specs.FinMap.{find}
use Rattle.std.specs.Cmp.{IsEquivalence}
use Rattle.std.specs.List.{AllByRecursion, Contains, dedup}
use Rattle.std.specs.List.Sorted.{IsPermutation, IsSorted, IsStrictlySortedBy}
use Rattle.std.specs.Map.{keys_of}
use Rattle.std.specs.Ordering.{eq_by_cmp, nat_cmp}
use Rattle.std.specs.Bool.{Decides}
use Rattle.std.proofs.lemmas.Bool.Decides.{nat_tests, same_from_decides}
use Rattle.std.proofs.lemmas.Bool.{eqb-true}
use Rattle.std.proofs.lemmas.Cmp.{nat_cmp_total}
use Rattle.std.proofs.lemmas.List.Kept.{Contains-dedup_nat, Contains-from_dedup, IsStrictlySortedBy-dedup}
use Rattle.std.proofs.lemmas.List.Sorted.{Contains-permutation, IsPermutation-sym}
use Rattle.std.proofs.lemmas.Map.Views.{Contains-from_any, list_any-from_Contains}
use Rattle.persistent_maps.specs.Edits.{edited, edited_by}
use Rattle.persistent_maps.proofs.Edits.{find-edited, Rises-edited}
use Rattle.touch_index.specs.Postings.{posting_cmp, Postings, Rises, posting, edits, is_posted, is_among, AreSameKeys}
use Rattle.touch_index.specs.PostingOrder.{posting_cmp_total, posting_cmp-IsAntisymmetric}

-- ---- edits

Rises-edited_by : (posted : Option (Unit {0})) (es : Postings) (n : ℕ) (keys : List ℕ) → Rises es → Rises (edited_by posting_cmp es (edits keys n posted))
Rises-edited_by posted es n [] rises = rises
Rises-edited_by posted es n (key ∷ keys) rises =
    Rises-edited_by posted (edited posting_cmp es (posting key n) posted) n keys (Rises-edited posting_cmp_total es (posting key n) posted rises)

is_tie : (p j q n : ℕ) → eq_by_cmp posting_cmp (posting p j) (posting q n) ≡ ((j == n) && (p == q))
is_tie p j q n = grind (arith, nat_tests)

is_some-cond : (b : Bool) (v w : Option (Unit {0})) → is_some (cond b v w) ≡ cond b (is_some v) (is_some w)
is_some-cond true v w = refl
is_some-cond false v w = refl

either : (a b c : Bool) (v w : Bool) → cond (a && b) v (cond (a && c) v w) ≡ cond (a && (c || b)) v w
either true true true v w = refl
either true true false v w = refl
either true false true v w = refl
either true false false v w = refl
either false b c v w = refl

unless_false : (a v w : Bool) → w ≡ cond (a && false) v w
unless_false true v w = refl
unless_false false v w = refl

-- the number is posted under these keys or not, as the edits say; all else is as it was
pub is_posted-edited_by : (posted : Option (Unit {0})) (es : Postings) (n : ℕ) (keys : List ℕ) (p j : ℕ) → Rises es
    → is_posted (edited_by posting_cmp es (edits keys n posted)) p j ≡ cond ((j == n) && is_among p keys) (is_some posted) (is_posted es p j)
is_posted-edited_by posted es n [] p j rises = unless_false (j == n) (is_some posted) (is_posted es p j)
is_posted-edited_by posted es n (key ∷ keys) p j rises =
    is_posted-edited_by posted (edited posting_cmp es (posting key n) posted) n keys p j (Rises-edited posting_cmp_total es (posting key n) posted rises)
    ∙ ap (cond ((j == n) && is_among p keys) (is_some posted))
    (ap is_some (find-edited posting_cmp_total posting_cmp-IsAntisymmetric (posting p j) es (posting key n) posted rises)
    ∙ is_some-cond (eq_by_cmp posting_cmp (posting p j) (posting key n)) posted (find posting_cmp (posting p j) es)
    ∙ ap (λ b. cond b (is_some posted) (is_posted es p j)) (is_tie p j key n))
    ∙ either (j == n) (is_among p keys) (p == key) (is_some posted) (is_posted es p j)

-- ---- sorted keys, each once

eqb_equivalence : IsEquivalence eqb
eqb_equivalence = record {
  refl = λ x. grind (arith, nat_tests);
  symm = λ x y. grind (arith, nat_tests);
  congr = λ x y z e. grind (arith, nat_tests);
}

among-decides : (key : ℕ) (keys : List ℕ) → Decides (is_among key keys) (Contains keys key)
among-decides key keys = (λ e. Contains-from_any eqb-true key keys e, λ e. list_any-from_Contains eqb_equivalence key keys e)

-- a sort, and leaving out what comes again, keep which keys there are
pub AreSameKeys-deduped : (keys sorted deduped : List ℕ) → IsPermutation keys sorted → deduped ≡ dedup eqb sorted → AreSameKeys deduped keys
AreSameKeys-deduped keys sorted deduped permuted is = λ key.
    ap (is_among key) is
    ∙ same_from_decides (is_among key (dedup eqb sorted)) (is_among key keys) (
      λ e. Contains-permutation sorted keys key (IsPermutation-sym keys sorted permuted) (Contains-from_dedup eqb sorted key ((among-decides key (dedup eqb sorted)).0 e)),
      λ has. (among-decides key (dedup eqb sorted)).1 (Contains-dedup_nat sorted key (Contains-permutation keys sorted key permuted has)),
    )
    (among-decides key keys)

pub deduped-rises : (sorted deduped : List ℕ) → IsSorted nat_cmp sorted → deduped ≡ dedup eqb sorted → IsStrictlySortedBy nat_cmp deduped
deduped-rises sorted deduped rises is =
    let P : List ℕ → Type 0 = λ keys. IsStrictlySortedBy nat_cmp keys in
    subst P (sym is) (IsStrictlySortedBy-dedup nat_cmp_total (λ x y. grind (arith, nat_tests)) sorted rises)

-- edits of keys that rise
posting-less : (key other n : ℕ) → nat_cmp key other ≡ Less → posting_cmp (posting key n) (posting other n) ≡ Less
posting-less key other n e = grind (arith, nat_tests)

above_all : (key n : ℕ) (keys : List ℕ) (posted : Option (Unit {0})) → AllByRecursion (λ other. nat_cmp key other ≡ Less) keys → AllByRecursion (λ p. posting_cmp (posting key n) p ≡ Less) (keys_of (edits keys n posted))
above_all key n [] posted above = tt
above_all key n (other ∷ keys) posted above = (posting-less key other n above.0, above_all key n keys posted above.1)

pub edits-rise : (keys : List ℕ) (n : ℕ) (posted : Option (Unit {0})) → IsStrictlySortedBy nat_cmp keys → IsStrictlySortedBy posting_cmp (keys_of (edits keys n posted))
unfolding IsStrictlySortedBy
edits-rise [] n posted rises = tt
edits-rise (key ∷ keys) n posted rises = (above_all key n keys posted rises.0, edits-rise keys n posted rises.1)
