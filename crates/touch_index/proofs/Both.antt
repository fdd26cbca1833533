-- The next number that passes both of two tests, where one test is looked up after the other.
use Rattle.std.proofs.Common.{◌≡◌, inl, inr, ℕ, ◌<◌, ◌≤◌, Bool, true, false, ◌&&◌, ◌||◌, Option, Some, None, refl, ap, arith, ◌∙◌}
use Rattle.std.proofs.lemmas.Bool.{cases_lt}
use Rattle.touch_index.specs.Next.{IsNext}

pub and_none : (a b : Bool) → b ≡ false → (a && b) ≡ false
and_none true b e = e
and_none false b e = refl

pub none_and : (a b : Bool) → a ≡ false → (a && b) ≡ false
none_and a b e = ap (λ t. t && b) e

-- None passes both up to `after`.
module _ (one other : ℕ → Bool) (number after : ℕ) (none : (i : ℕ) → number < i → i ≤ after → (one i && other i) ≡ false) (up : number ≤ after) where
  abbrev both : ℕ → Bool
  both i = one i && other i

  pub next-none : IsNext other after None → IsNext both number None
  next-none is = λ i above. elim (cases_lt after i) [
    | inl later ↦ and_none (one i) (other i) (is i later)
    | inr early ↦ none i above early
  ]

  pub next-found : (found : ℕ) → IsNext other after (Some found) → one found ≡ true → IsNext both number (Some found)
  next-found found is passes = (
    omega (arith, up, is.0),
    (λ j. passes j && is.1 j),
    λ i above below. elim (cases_lt after i) [
      | inl later ↦ and_none (one i) (other i) (is.2 i later below)
      | inr early ↦ none i above early
    ],
  )

  -- where what passes the second test doesn't pass the first
  up-to : (found : ℕ) → IsNext other after (Some found) → one found ≡ false → (i : ℕ) → number < i → i ≤ found → both i ≡ false
  up-to found is fails i above near = elim (cases_lt after i) [
    | inl later ↦ elim (cases_lt i found) [
      | inl below ↦ and_none (one i) (other i) (is.2 i later below)
      | inr top ↦ let same : i ≡ found = omega (arith, near, top) in none_and (one i) (other i) (ap one same ∙ fails)
    ]
    | inr early ↦ none i above early
  ]

  pub no-more : (found : ℕ) → IsNext other after (Some found) → one found ≡ false → IsNext one found None → IsNext both number None
  no-more found is fails last = λ i above. elim (cases_lt found i) [
    | inl later ↦ none_and (one i) (other i) (last i later)
    | inr near ↦ up-to found is fails i above near
  ]

  pub goes-on : (found next : ℕ) → IsNext other after (Some found) → one found ≡ false → IsNext one found (Some next) → (i : ℕ) → number < i → i < next → both i ≡ false
  goes-on found next is fails more i above below = elim (cases_lt found i) [
    | inl later ↦ none_and (one i) (other i) (more.2 i later below)
    | inr near ↦ up-to found is fails i above near
  ]
