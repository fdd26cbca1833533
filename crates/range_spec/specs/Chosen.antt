-- Which bytes of a file some specs choose, by RFC 9110, sections 14.1.2 and 15.5.17.
use Rattle.std.specs.Prelude.{ℕ, ◌+◌, ◌-◌, ◌<◌, ◌≤◌, ◌==◌, nat_lt, min, if◌then◌else◌, List, [], ◌∷◌, sum_by, Option, Some, None, unwrap_or}
use Rattle.std.specs.List.{filter_map}
use Rattle.range_spec.specs.declared.grammar.Spec.{Spec}
use Rattle.range_spec.specs.declared.grammar.Spec.TheVariants.{From, Suffix}
use Rattle.range_spec.specs.declared.selection.Choice.{Choice}
use Rattle.range_spec.specs.declared.selection.Choice.TheVariants.{Whole, One, Many, None416}

-- the first and the last position that a spec in order asks for in a file of this many bytes, at least one;
-- None where the spec can't be satisfied
abbrev pub interval_of : ℕ → Spec → Option (ℕ × ℕ)
interval_of size (From first last) =
    if nat_lt first size then Some (first, min (unwrap_or last (size - 1)) (size - 1)) else None
interval_of size (Suffix n) = if nat_lt 0 n then Some (size - n, size - 1) else None

-- the spec asks for the byte at this position, if a file of this many bytes has one there
abbrev pub AsksFor : ℕ → Spec → ℕ → Type 0
AsksFor size (From first None) position = first ≤ position
AsksFor size (From first (Some last)) position = (first ≤ position) × (position ≤ last)
AsksFor size (Suffix n) position = size ≤ position + n

-- the position lies in the interval
abbrev pub LiesIn : ℕ → ℕ × ℕ → Type 0
LiesIn position interval = (interval.0 ≤ position) × (position ≤ interval.1)

-- how many bytes an interval has
abbrev pub size_of : ℕ × ℕ → ℕ
size_of interval = interval.1 - interval.0 + 1

-- the choice, where these are the intervals that can be satisfied; where they have more bytes together than the file,
-- the field is ignored, as a server may (section 14.2)
abbrev pub choice_of : ℕ → List (ℕ × ℕ) → Choice
choice_of size [] = None416
choice_of size (interval ∷ []) = One interval.0 interval.1
choice_of size (interval ∷ other ∷ more) =
    if nat_lt size (sum_by size_of (interval ∷ other ∷ more)) then Whole else Many (interval ∷ other ∷ more)

-- what the specs choose of a file of this many bytes; of an empty one, all
abbrev pub chosen : List Spec → ℕ → Choice
chosen specs size = if size == 0 then Whole else choice_of size (filter_map (interval_of size) specs)

-- the intervals of a choice that names some
abbrev pub intervals_in : Choice → List (ℕ × ℕ)
intervals_in Whole = []
intervals_in (One first last) = (first, last) ∷ []
intervals_in (Many intervals) = intervals
intervals_in None416 = []

-- an interval lies within a file of this many bytes
abbrev pub LiesWithin : ℕ → ℕ × ℕ → Type 0
LiesWithin size interval = (interval.0 ≤ interval.1) × (interval.1 < size)
