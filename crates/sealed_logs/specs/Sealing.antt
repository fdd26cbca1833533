-- Sealing: the changes up to an entry become the base.
use Rattle.std.specs.Prelude.{◌≡◌, ℕ, ◌+◌, ◌-◌, ◌==◌, ◌||◌, nat_le, nat_lt, List, [], ◌∷◌, take, drop, Option, Some, None, option_map, unwrap_or, if◌then◌else◌}
use Rattle.std.specs.FinMap as map
use Rattle.byte_view.specs.Contents.{Contents}
use Rattle.site_change.specs.declared.entries.Entry.{Entry}
use Rattle.site_change.specs.declared.entries.Entry.TheVariants.{Change, Undo}
use Rattle.change_log.specs.Bases.{names_of}
use Rattle.change_log.specs.Logs.{Log, last_number, with_only}
use Rattle.change_undo.specs.LiveChanges.{run}

-- the log up to the entry of this number
abbrev pub up_to : ℕ → Log → Log
up_to n log = with_only log (take (n - log.base) log.entries)

-- its entries above it
abbrev pub above : ℕ → Log → List Entry
above n log = drop (n - log.base) log.entries

-- the number of the first of these entries that undoes a change up to n; the first one has the number at
abbrev pub split_in : ℕ → ℕ → List Entry → Option ℕ
split_in n at [] = None
split_in n at (Change command ∷ entries) = split_in n (at + 1) entries
split_in n at (Undo site k ∷ entries) = if nat_le k n then Some at else split_in n (at + 1) entries

-- why a log can't be sealed
pub data SealRefusal : Type 0 where
  NoSuchEntry : SealRefusal
  Sealed : SealRefusal
  Splits : (undo : ℕ) → SealRefusal

-- the first reason against sealing a log at the entry of this number: it has none, it is sealed there or above, or an undo above names a change up to it
abbrev pub seal_refusal : Log → ℕ → Option SealRefusal
seal_refusal log n =
    if n == 0 || nat_lt (last_number log) n then Some NoSuchEntry
    else if nat_le n log.base then Some Sealed
    else option_map Splits (split_in n (n + 1) (above n log))

-- the log sealed at the entry of this number: what the changes up to it leave is the base, and the entries above it stay
abbrev pub sealed : Contents → ℕ → Log → Log
sealed uploads n log = record { base = n; names = names_of (unwrap_or (run uploads (up_to n log)) map.empty); entries = above n log }
