-- What is looked at where bytes may occur across an edge.
use Rattle.std.specs.Prelude.{ℕ, ◌-◌, List, length, drop}

-- the last 64 bytes of a text, or all where it has fewer
abbrev pub ending : List ℕ → List ℕ
ending text = drop (length text - 64) text
