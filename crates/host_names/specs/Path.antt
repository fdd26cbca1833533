-- Paths of files within a site, as lists of bytes.
use Rattle.std.specs.Prelude.{ℕ, Bool, false, List, [], ◌∷◌, length, not, nat_le, ◌==◌, ◌&&◌, ◌||◌, codes, if◌then◌else◌}
use Rattle.std.specs.List.{list_all, slice_split}
use Rattle.std.specs.Str.{byte, bytes_eq}

-- what may be in a path: all but NUL, `#`, `?` and the backslash (92)
abbrev pub is_path_byte : ℕ → Bool
is_path_byte b = not (b == 0 || b == byte "#" || b == byte "?" || b == 92)

-- what may be between two slashes: not nothing, and neither `.` nor `..`
abbrev pub is_segment : List ℕ → Bool
is_segment s = not (length s == 0) && not (bytes_eq s (codes ".")) && not (bytes_eq s (codes ".."))

-- the parts around the slashes
abbrev pub segments : List ℕ → List (List ℕ)
segments text = slice_split (λ b. b == byte "/") text

-- what may follow a path's leading slash: valid segments, with the slash from 2 to 1,024 bytes
abbrev pub is_relative_path : List ℕ → Bool
is_relative_path text = nat_le 1 (length text) && nat_le (length text) 1023 && list_all is_path_byte text && list_all is_segment (segments text)

-- whether the text is a path: a slash, and what may follow it
abbrev pub is_path : List ℕ → Bool
is_path [] = false
is_path (b ∷ text) = b == byte "/" && is_relative_path text

-- the text with a leading slash, which is put before it where it is missing
abbrev pub with_slash : List ℕ → List ℕ
with_slash [] = byte "/" ∷ []
with_slash (b ∷ text) = if b == byte "/" then b ∷ text else byte "/" ∷ b ∷ text
