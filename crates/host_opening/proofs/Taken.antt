-- Entries up to a number.
use Rattle.std.proofs.Common.{◌==◌, true, false, cond, ◌≡◌, ◌∙◌, ℕ, zero, suc, ◌+◌, ◌-◌, ◌<◌, ◌≤◌, List, [], ◌∷◌, ◌++◌, IsSome, Option, Some, None, ap, arith, drop, length, refl, slice_get, subst, sym, take}
use Rattle.std.specs.Borrow.{Bor}
use Rattle.std.specs.Prelude.{option_copied}
use Rattle.std.proofs.lemmas.Option.{slice_get_within}
use Rattle.site_change.specs.declared.entries.Entry.{Entry}
use Rattle.change_log.specs.Logs.{Log, entry_at, last_number, with_only}
use Rattle.change_undo.proofs.Marked.{number_at}
use Rattle.change_undo.proofs.Runs.{entry_at-some}

module _ {X : Type 0} where
  some_within : (xs : List X) (n : ℕ) → n < length xs → IsSome (slice_get xs n)
  some_within [] n lt = absurd (omega arith)
  some_within (x ∷ xs) zero lt = refl
  some_within (x ∷ xs) (suc n) lt = some_within xs n (omega arith)

  taken_at : (xs : List X) (n : ℕ) (x : X) → slice_get xs n ≡ Some x → take (suc n) xs ≡ take n xs ++ x ∷ []
  taken_at [] n x is = cc is
  taken_at (y ∷ xs) zero x is = let same : y ≡ x = cc is in ap (λ z. z ∷ []) same
  taken_at (y ∷ xs) (suc n) x is = ap (λ l. y ∷ l) (taken_at xs n x is)

  split_at : (xs : List X) (n : ℕ) (x : X) → slice_get xs n ≡ Some x → xs ≡ take n xs ++ x ∷ drop (suc n) xs
  split_at [] n x is = cc is
  split_at (y ∷ xs) zero x is = let same : y ≡ x = cc is in ap (λ z. z ∷ xs) same
  split_at (y ∷ xs) (suc n) x is = ap (λ l. y ∷ l) (split_at xs n x is)

  pub take_all : (xs : List X) (n : ℕ) → n ≡ length xs → take n xs ≡ xs
  take_all xs n is = ap (λ k. take k xs) is ∙ go xs
    where
      go : (xs : List X) → take (length xs) xs ≡ xs
      go [] = refl
      go (x ∷ xs) = ap (λ l. x ∷ l) (go xs)

-- the entry of a number is at the place before it, from the base on
pub entry_before : (log : Log) (i : ℕ) → entry_at log (log.base + suc i) ≡ slice_get log.entries i
entry_before log i = number_at (slice_get log.entries) log.base (log.base + suc i) i refl

pub some_entry : (log : Log) (n : ℕ) → log.base < n → n ≤ last_number log → IsSome (entry_at log n)
some_entry log n some within =
    let i : ℕ = n - log.base - 1 in
    let at : n ≡ log.base + suc (n - log.base - 1) = omega (arith, some) in
    subst (λ o. IsSome o) (sym (number_at (slice_get log.entries) log.base n i at)) (some_within log.entries i (omega (arith, at, within)))

entry_here : (log : Log) (n : ℕ) (entry : Entry) → log.base ≤ n → entry_at log (n + 1) ≡ Some entry → slice_get log.entries (n - log.base) ≡ Some entry
entry_here log n entry above is =
    let at : n + 1 ≡ log.base + suc (n - log.base) = omega (arith, above) in
    sym (number_at (slice_get log.entries) log.base (n + 1) (n - log.base) at) ∙ is

-- the log up to a number
abbrev pub up_to : ℕ → Log → Log
up_to n log = with_only log (take (n - log.base) log.entries)

pub taken_more : (log : Log) (n : ℕ) (entry : Entry) → log.base ≤ n → entry_at log (n + 1) ≡ Some entry
    → take (n + 1 - log.base) log.entries ≡ take (n - log.base) log.entries ++ entry ∷ []
taken_more log n entry above is =
    let next : n + 1 - log.base ≡ suc (n - log.base) = omega (arith, above) in
    ap (λ k. take k log.entries) next ∙ taken_at log.entries (n - log.base) entry (entry_here log n entry above is)

pub split_more : (log : Log) (n : ℕ) (entry : Entry) → log.base ≤ n → entry_at log (n + 1) ≡ Some entry
    → log.entries ≡ take (n - log.base) log.entries ++ entry ∷ drop (suc (n - log.base)) log.entries
split_more log n entry above is = split_at log.entries (n - log.base) entry (entry_here log n entry above is)

-- the number of an entry that there is
pub entry_within : (log : Log) (n : ℕ) (entry : Entry) → entry_at log n ≡ Some entry → (log.base < n) × (n ≤ last_number log)
entry_within log n entry is =
    let above = entry_at-some log n entry is in
    let at : n ≡ log.base + suc (n - log.base - 1) = omega (arith, above) in
    let there : slice_get log.entries (n - log.base - 1) ≡ Some entry = sym (number_at (slice_get log.entries) log.base n (n - log.base - 1) at) ∙ is in
    (above, omega (arith, at, slice_get_within log.entries (n - log.base - 1) entry there))

-- a reference is there where what it points to is
pub some_copied : (o : Option (Bor Entry)) → IsSome (option_copied o) → IsSome o
some_copied None some = cc some
some_copied (Some x) some = refl
