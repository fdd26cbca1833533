-- The media type of a file, by the end of its path.
use Rattle.std.specs.Prelude.{ℕ, List, [], ◌∷◌, Option, Some, None, option_map, unwrap_or, ◌==◌, if◌then◌else◌, codes}
use Rattle.std.specs.List.{find}
use Rattle.std.specs.Option.{option_or}
use Rattle.std.specs.Str.{byte, bytes_eq, str_to_ascii_lowercase}

-- what follows the last such byte
abbrev pub after_last : ℕ → List ℕ → Option (List ℕ)
after_last b [] = None
after_last b (c ∷ text) = option_or (after_last b text) (if c == b then Some text else None)

-- what follows the last dot of the last segment
abbrev pub extension_of : List ℕ → Option (List ℕ)
extension_of path = after_last (byte ".") (unwrap_or (after_last (byte "/") path) path)

-- the type of files whose names end so
abbrev pub types : List (List ℕ × List ℕ)
types =
    (codes "html", codes "text/html; charset=utf-8")
    ∷ (codes "css", codes "text/css; charset=utf-8")
    ∷ (codes "js", codes "text/javascript; charset=utf-8")
    ∷ (codes "txt", codes "text/plain; charset=utf-8")
    ∷ (codes "json", codes "application/json")
    ∷ (codes "svg", codes "image/svg+xml")
    ∷ (codes "png", codes "image/png")
    ∷ (codes "jpg", codes "image/jpeg")
    ∷ (codes "jpeg", codes "image/jpeg")
    ∷ (codes "gif", codes "image/gif")
    ∷ (codes "woff2", codes "font/woff2")
    ∷ []

abbrev pub listed_type : Option (List ℕ) → Option (List ℕ)
listed_type None = None
listed_type (Some extension) =
    option_map (λ (row : List ℕ × List ℕ). row.1)
    (find (λ (row : List ℕ × List ℕ). bytes_eq (str_to_ascii_lowercase extension) row.0) types)

-- the type of the file at the path, ASCII case ignored
abbrev pub type_of : List ℕ → List ℕ
type_of path = unwrap_or (listed_type (extension_of path)) (codes "application/octet-stream")
