-- The body of an answer.
use Rattle.std.specs.Borrow.{Bor}
use Rattle.std.specs.Prelude.{ℕ, List, [], ◌∷◌, Option, Some, None}

-- its parts: what is lent, if anything is
abbrev pub lent_parts : Option (Bor (List ℕ)) → List (List ℕ)
lent_parts (Some bytes) = bytes.now ∷ []
lent_parts None = []
