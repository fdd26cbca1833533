-- Logs: the entries of a history in their order, each with its number. They may begin after their first ones: a log has a base, which is what the
-- changes up to a number left, and the entries from the next number on.
--
-- What is above this crate counts the entries of a log, numbers them and puts others after them in these words alone.
use Rattle.std.specs.Prelude.{◌≡◌, ℕ, ◌+◌, ◌-◌, nat_le, List, [], ◌∷◌, ◌++◌, length, slice_get, Option, None, if◌then◌else◌}
use Rattle.std.specs.Coded.{Coded, code_by, coded×, coded_ℕ}
use Rattle.std.proofs.Common.{refl}
use Rattle.std.specs.FinMap as finmap
use Rattle.std.specs.List.{enumerate_from}
use Rattle.site_change.specs.declared.entries.Entry.{Entry}
use Rattle.change_log.specs.Bases.{Names}

-- the number of the last entry that it no longer has, 0 if it has all; the names of what the changes up to that one left; the entries since
pub record Log : Type 0 where
  pub base : ℕ
  pub names : Names
  pub entries : List Entry

-- a log is stored as its parts in a row
abbrev pub coded_log : Coded Names → Coded (List Entry) → Coded Log
coded_log names entries =
    code_by (ℕ × (Names × List Entry)) (coded× coded_ℕ (coded× names entries))
    (λ l. (l.base, (l.names, l.entries))) (λ t. record { base = t.0; names = t.1.0; entries = t.1.1 }) (λ _. refl)

-- a log without a base and without entries
abbrev pub empty_log : Log
empty_log = record { base = 0; names = finmap.empty; entries = [] }

-- the log with these entries in place of its own
abbrev pub with_only : Log → List Entry → Log
with_only log entries = record { base = log.base; names = log.names; entries = entries }

-- the log has all its entries, and no base
abbrev pub IsWhole : Log → Type 0
IsWhole log = log ≡ with_only empty_log log.entries

-- the number of its last entry, or that of its base where it has none
abbrev pub last_number : Log → ℕ
last_number log = log.base + length log.entries

-- the number that its next entry has
abbrev pub next_number : Log → ℕ
next_number log = last_number log + 1

-- the entry of this number, if it is above the base
abbrev pub entry_at : Log → ℕ → Option Entry
entry_at log k = if nat_le k log.base then None else slice_get log.entries (k - log.base - 1)

-- its entries, each with its number
abbrev pub numbered : Log → List (ℕ × Entry)
numbered log = enumerate_from (log.base + 1) log.entries

-- the log with these entries after its own
abbrev pub with_entries : Log → List Entry → Log
with_entries log more = with_only log (log.entries ++ more)

-- the log with one entry more
abbrev pub with_entry : Log → Entry → Log
with_entry log entry = with_entries log (entry ∷ [])

-- the longer log has the base and the entries of the other, and after these maybe more
abbrev pub BeginsWith : Log → Log → Type 0
BeginsWith longer log = (more : List Entry) × (longer ≡ with_entries log more)
