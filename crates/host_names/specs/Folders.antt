-- Folders: paths that others are below, as `/docs/x` is below `/docs`.
use Rattle.std.specs.Prelude.{ℕ, Bool, true, false, List, [], ◌∷◌, ◌++◌, length, drop, ◌==◌, ◌&&◌}
use Rattle.std.specs.Str.{byte}

-- whether the text begins with the other
abbrev pub begins_with : List ℕ → List ℕ → Bool
begins_with text [] = true
begins_with [] (b ∷ front) = false
begins_with (a ∷ text) (b ∷ front) = a == b && begins_with text front

-- the text with a slash after it
abbrev pub slash_after : List ℕ → List ℕ
slash_after folder = folder ++ byte "/" ∷ []

-- whether the path is below the folder: it begins with it and a slash
abbrev pub is_below : List ℕ → List ℕ → Bool
is_below folder path = begins_with path (slash_after folder)

-- where a path that is below the one folder goes when that becomes the other
abbrev pub moved : List ℕ → List ℕ → List ℕ → List ℕ
moved source target path = target ++ drop (length source) path
