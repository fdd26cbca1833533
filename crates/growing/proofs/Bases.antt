-- What a later log has of the other one: its base, and each entry under its number.
use Rattle.std.proofs.Common.{◌≡◌, ◌≤◌, ◌+◌, ◌-◌, ◌∙◌, ℕ, zero, suc, nat_le, true, false, cond, List, [], ◌∷◌, ◌++◌, Some, None, length, slice_get, ap, sym, arith, length-append}
use Rattle.site_change.specs.declared.entries.Entry.{Entry}
use Rattle.change_log.specs.Logs.{BeginsWith, Log, entry_at, last_number, with_entries}
use Rattle.change_log.proofs.Longer.{with_none}

pub same_base : (old new : Log) → BeginsWith new old → (new.base ≡ old.base) × (new.names ≡ old.names)
same_base old new later = (ap (λ (l : Log). l.base) later.1, ap (λ (l : Log). l.names) later.1)

among_first : (entries more : List Entry) (i : ℕ) (entry : Entry) → slice_get entries i ≡ Some entry → slice_get (entries ++ more) i ≡ Some entry
among_first [] more i entry is = absurd (cc is)
among_first (other ∷ entries) more zero entry is = is
among_first (other ∷ entries) more (suc i) entry is = among_first entries more i entry is

among_longer : (log : Log) (more : List Entry) (k : ℕ) (entry : Entry) → entry_at log k ≡ Some entry → entry_at (with_entries log more) k ≡ Some entry
among_longer log more k entry =
    let i : ℕ = k - log.base - 1 in
    elim (nat_le k log.base) as (λ t. cond t None (slice_get log.entries i) ≡ Some entry → cond t None (slice_get (log.entries ++ more) i) ≡ Some entry) [
      | true ↦ λ is. is
      | false ↦ among_first log.entries more i entry
    ]

pub entry_kept : (old new : Log) (k : ℕ) (entry : Entry) → BeginsWith new old → entry_at old k ≡ Some entry → entry_at new k ≡ Some entry
entry_kept old new k entry later is = ap (λ (l : Log). entry_at l k) later.1 ∙ among_longer old later.0 k entry is

pub ends_no_earlier : (old new : Log) → BeginsWith new old → last_number old ≤ last_number new
ends_no_earlier old new later =
    let whole : new.base + length new.entries ≡ old.base + length (old.entries ++ later.0) = ap last_number later.1 in
    omega (arith, whole, length-append old.entries later.0)

with_nothing : (log : Log) (more : List Entry) → length more ≡ 0 → with_entries log more ≡ log
with_nothing log [] none = with_none log
with_nothing log (entry ∷ more) none = absurd (omega (arith, none))

-- each as late as the other
pub same_log : (old new : Log) → BeginsWith new old → BeginsWith old new → old ≡ new
same_log old new later back =
    let there : new.base + length new.entries ≡ old.base + length (old.entries ++ later.0) = ap last_number later.1 in
    let again : old.base + length old.entries ≡ new.base + length (new.entries ++ back.0) = ap last_number back.1 in
    let none : length later.0 ≡ 0 = omega (arith, there, again, length-append old.entries later.0, length-append new.entries back.0) in
    sym (later.1 ∙ with_nothing old later.0 none)
