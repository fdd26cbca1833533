-- What a look-up above a number finds.
use Rattle.std.proofs.Common.{◌≡◌, ℕ, ◌<◌, true, false, cond, [], ◌∷◌, filter, Option, Some, None, Less, Equal, is_eq, is_some, arith, refl, sym, ap, ◌∙◌}
use Rattle.std.specs.FinMap.{find}
use Rattle.std.specs.List.{AllByRecursion}
use Rattle.std.specs.Map.{keys_of}
use Rattle.std.specs.Ordering.{eq_by_cmp}
use Rattle.std.proofs.lemmas.Cmp.{tied_itself}
use Rattle.std.proofs.lemmas.Bool.Decides.{nat_tests}
use Rattle.std.proofs.lemmas.Map.Keys.{sorted_head, sorted_tail}
use Rattle.touch_index.specs.declared.postings.Posting.{Posting}
use Rattle.touch_index.specs.Next.{IsNext}
use Rattle.touch_index.specs.Postings.{posting_cmp, Postings, Rises, posting, is_posted, is_above}
use Rattle.touch_index.specs.PostingOrder.{posting_cmp_total}

-- a posting below all others is none of them
unfound : (p : Posting) (es : Postings) → AllByRecursion (λ y. posting_cmp p y ≡ Less) (keys_of es) → is_some (find posting_cmp p es) ≡ false
unfound p [] above = refl
unfound p (e ∷ es) above = ap (λ r. is_some (cond (is_eq r) (Some e.1) (find posting_cmp p es))) above.0 ∙ unfound p es above.1

below_all : (p q : Posting) (es : Postings) → posting_cmp p q ≡ Less → AllByRecursion (λ y. posting_cmp q y ≡ Less) (keys_of es) → AllByRecursion (λ y. posting_cmp p y ≡ Less) (keys_of es)
below_all p q [] less above = tt
below_all p q (e ∷ es) less above = (posting_cmp_total.trans p q e.0 less above.0, below_all p q es less above.1)

-- where the first is not above the number, what is above it is among the others
passed : (key n i : ℕ) (e : Posting × Unit {0}) (es : Postings) → is_above key n e.0 ≡ false → n < i → is_posted (e ∷ es) key i ≡ is_posted es key i
passed key n i e es not_it above = ap (λ b. is_some (cond b (Some e.1) (find posting_cmp (posting key i) es))) (another key n i e.0 not_it above)
  where
    another : (key n i : ℕ) (p : Posting) → is_above key n p ≡ false → n < i → eq_by_cmp posting_cmp (posting key i) p ≡ false
    another key n i p not_it above = grind (arith, nat_tests)

earlier : (key i : ℕ) (p : Posting) → p.key ≡ key → i < p.number → posting_cmp (posting key i) p ≡ Less
earlier key i p at less = grind (arith, nat_tests)

is_it : (key n : ℕ) (p : Posting) → is_above key n p ≡ true → (p.key ≡ key) × (n < p.number)
is_it key n p e = grind (arith, nat_tests)

-- the number of the first
abbrev pub first_number : Postings → Option ℕ
first_number [] = None
first_number (e ∷ es) = Some e.0.number

-- the first of those above the number is the next
pub next-first : (key n : ℕ) (es : Postings) → Rises es → IsNext (is_posted es key) n (first_number (filter (λ e. is_above key n e.0) es))
next-first key n [] rises = λ i above. refl
next-first key n (e ∷ es) rises = elim (is_above key n e.0) as (λ b. is_above key n e.0 ≡ b → IsNext (is_posted (e ∷ es) key) n (first_number (cond b (e ∷ filter (λ e. is_above key n e.0) es) (filter (λ e. is_above key n e.0) es)))) [
  | true ↦ λ it.
      let is = is_it key n e.0 it in
      let same : posting key e.0.number ≡ e.0 = λ i. record { key = sym is.0 i; number = e.0.number } in
      let tie : posting_cmp (posting key e.0.number) e.0 ≡ Equal = ap (λ p. posting_cmp p e.0) same ∙ tied_itself posting_cmp_total e.0 in (
        is.1,
        ap (λ r. is_some (cond (is_eq r) (Some e.1) (find posting_cmp (posting key e.0.number) es))) tie,
        λ i above below.
            let less = earlier key i e.0 is.0 below in
            unfound (posting key i) (e ∷ es) (less, below_all (posting key i) e.0 es less (sorted_head posting_cmp e.0 (keys_of es) rises)),
      )
  | false ↦ λ other. more (first_number (filter (λ e. is_above key n e.0) es)) (λ i above. passed key n i e es other above) (next-first key n es (sorted_tail posting_cmp e.0 (keys_of es) rises))
] refl
  where
    more : (next : Option ℕ) → ((i : ℕ) → n < i → is_posted (e ∷ es) key i ≡ is_posted es key i) → IsNext (is_posted es key) n next → IsNext (is_posted (e ∷ es) key) n next
    more None same is = λ i above. same i above ∙ is i above
    more (Some j) same is = (is.0, same j is.0 ∙ is.1, λ i above below. same i above ∙ is.2 i above below)
