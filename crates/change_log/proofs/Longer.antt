-- A log with more entries.
use Rattle.std.proofs.Common.{◌≡◌, ◌⊎◌, inl, inr, ℕ, zero, suc, ◌-◌, ◌+◌, ◌<◌, nat_le, true, false, cond, List, [], ◌∷◌, ◌++◌, Some, None, length, slice_get, refl, ap, ◌∙◌, arith}
use Rattle.std.proofs.lemmas.Bool.{leb-true}
use Rattle.std.proofs.lemmas.List.{append-nil, append_assoc, length-append}
use Rattle.site_change.specs.declared.entries.Entry.{Entry}
use Rattle.change_log.specs.Logs.{Log, entry_at, last_number, next_number, with_entries, with_entry, with_only}

-- ---- lists of entries

pub with_none : (log : Log) → with_entries log [] ≡ log
with_none log = ap (with_only log) (append-nil log.entries)

pub with_both : (log : Log) (first more : List Entry) → with_entries (with_entries log first) more ≡ with_entries log (first ++ more)
with_both log first more = ap (with_only log) (append_assoc log.entries first more)

-- ---- one entry

pub last_number-with_entry : (log : Log) (entry : Entry) → last_number (with_entry log entry) ≡ next_number log
last_number-with_entry log entry = omega (arith, length-append log.entries (entry ∷ []))

at_end : (entries : List Entry) (entry : Entry) → slice_get (entries ++ entry ∷ []) (length entries) ≡ Some entry
at_end [] entry = refl
at_end (other ∷ entries) entry = at_end entries entry

-- what is above the base isn't up to it
pub above : (n base : ℕ) → base < n → nat_le n base ≡ false
above n base later = elim (nat_le n base) as (λ t. nat_le n base ≡ t → t ≡ false) [ true ↦ λ e. absurd (omega (arith, leb-true n base e, later)) | false ↦ λ e. refl ] refl

-- the next entry of a log has the number after its last one
pub entry_at-with_entry : (log : Log) (entry : Entry) (n : ℕ) → n ≡ next_number log → entry_at (with_entry log entry) n ≡ Some entry
entry_at-with_entry log entry n is =
    let entries = log.entries ++ entry ∷ [] in
    let place : n - log.base - 1 ≡ length log.entries = omega (arith, is) in
    ap (λ t. cond t None (slice_get entries (n - log.base - 1))) (above n log.base (omega (arith, is))) ∙ ap (slice_get entries) place ∙ at_end log.entries entry

slice_get-push : (entries : List Entry) (entry : Entry) (i : ℕ) → (slice_get (entries ++ entry ∷ []) i ≡ slice_get entries i) ⊎ (slice_get entries i ≡ None)
slice_get-push [] entry i = inr refl
slice_get-push (other ∷ entries) entry zero = inl refl
slice_get-push (other ∷ entries) entry (suc i) = slice_get-push entries entry i

-- every other entry keeps its number
pub entry_at-push : (log : Log) (entry : Entry) (n : ℕ) → (entry_at (with_entry log entry) n ≡ entry_at log n) ⊎ (entry_at log n ≡ None)
entry_at-push log entry n =
    let i : ℕ = n - log.base - 1 in
    elim (nat_le n log.base) as (λ t. (cond t None (slice_get (log.entries ++ entry ∷ []) i) ≡ cond t None (slice_get log.entries i)) ⊎ (cond t None (slice_get log.entries i) ≡ None)) [
      | true ↦ inl refl
      | false ↦ slice_get-push log.entries entry i
    ]
