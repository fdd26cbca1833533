-- Which connection has the least number. A connection is its place, and its number.
use Rattle.std.specs.Prelude.{◌≡◌, ◌≤◌, ℕ, List, [], ◌∷◌, Option, None, Some, if◌then◌else◌, nat_lt}
use Rattle.std.specs.List.{AllByRecursion, Contains}

abbrev pub nobody : Option (ℕ × ℕ)
nobody = None

-- the one with the lesser number; of two with the same, the first
abbrev pub lesser_of : Option (ℕ × ℕ) → ℕ × ℕ → Option (ℕ × ℕ)
lesser_of None next = Some next
lesser_of (Some found) next = if nat_lt next.1 found.1 then Some next else Some found

-- what is found where these are looked at in turn, after what was found before
abbrev pub found_after : Option (ℕ × ℕ) → List (ℕ × ℕ) → Option (ℕ × ℕ)
found_after found [] = found
found_after found (next ∷ rest) = found_after (lesser_of found next) rest

abbrev pub least_of : List (ℕ × ℕ) → Option (ℕ × ℕ)
least_of all = found_after nobody all

-- it is one of these, and none of them has a lesser number; nothing, where there is none
abbrev pub IsLeast : List (ℕ × ℕ) → Option (ℕ × ℕ) → Type 0
IsLeast all None = all ≡ []
IsLeast all (Some found) = Contains all found × AllByRecursion (λ (other : ℕ × ℕ). found.1 ≤ other.1) all
