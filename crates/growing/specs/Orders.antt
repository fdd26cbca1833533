-- An order in which a value becomes later and later.
use Rattle.std.specs.Prelude.{◌≡◌, ◌⊎◌}

-- the second is later than the first, and the first isn't as late as the second
abbrev pub IsNewer : {E : Type 0} → (is_later : E → E → Type 0) → E → E → Type 0
IsNewer is_later old new = is_later old new × (is_later new old → ⊥)

-- the later one of two; the second if each is as late as the other
abbrev pub IsLaterOf : {E : Type 0} → (is_later : E → E → Type 0) → (one other found : E) → Type 0
IsLaterOf is_later one other found = (is_later one other × (found ≡ other)) ⊎ (IsNewer is_later other one × (found ≡ one))
