-- What a list was, one value after another.
use Rattle.std.specs.Prelude.{List, [], ◌∷◌}
use Rattle.growing.specs.Orders.{IsNewer}

-- the last of these; what was there at first if there are none
abbrev pub latest : {E : Type 0} → (found : E) → List E → E
latest found [] = found
latest found (item ∷ items) = latest item items

-- each of these is newer than the one before it
abbrev pub Rises : {E : Type 0} → (is_later : E → E → Type 0) → (found : E) → List E → Type 0
Rises is_later found [] = Unit {0}
Rises is_later found (item ∷ items) = IsNewer is_later found item × Rises is_later item items
