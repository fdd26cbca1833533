-- The mark: a text with which the first boundary of each reply begins.
use Rattle.std.specs.Prelude.{◌≡◌, ℕ, Bool, IsTrue, List, ◌∷◌, codes}
use Rattle.std.specs.Str.Iter.{HasSubslice}

abbrev pub mark : List ℕ
mark = codes "fh0-"

-- bytes have it, one byte after another
abbrev pub HasMark : List ℕ → Type 0
HasMark bytes = HasSubslice bytes mark

-- it is true wherever the first of these texts has the mark
abbrev pub TellsFirst : List (List ℕ) → Bool → Type 0
TellsFirst texts told = (first : List ℕ) (others : List (List ℕ)) → texts ≡ first ∷ others → HasMark first → IsTrue told
