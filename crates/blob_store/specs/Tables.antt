-- Tables: the size of a file and the names of its pieces, as a shelf keeps them.
use Rattle.std.specs.Prelude.{◌≡◌, ℕ, ◌+◌, ◌*◌, ◌/◌, ◌≤◌, List, ◌++◌, All, length, map, take}
use Rattle.std.specs.List.{concat}
use Rattle.std.specs.Int.{w64, to_be_bytes, from_be_bytes}
use Rattle.host_names.specs.declared.digests.Digest.{Digest}

-- the text of a table: the size in 8 bytes, the highest first, and the bytes of each name
abbrev pub text_of : ℕ → List Digest → List ℕ
text_of size names = to_be_bytes w64 size ++ concat (map (λ name. name.0) names)

-- how many pieces a file of so many bytes has
abbrev pub pieces_of : ℕ → ℕ
pieces_of size = (size + 65535) / 65536

-- a text is that of the table of a file with so many bytes and these names
pub record Spells (text : List ℕ) (size : ℕ) (names : List Digest) : Type 0 where
  pub small : size ≤ 16777216
  pub count : length names ≡ pieces_of size
  pub named : All (λ (name : Digest). length name.0 ≡ 20) names
  pub spelled : text ≡ text_of size names

-- ---- what private functions say, and the laws of tables

-- the size that a text begins with
abbrev pub size_of : List ℕ → ℕ
size_of text = from_be_bytes w64 (take 8 text)

-- a text begins with the size of a file that isn't too large, and has the room of its pieces' names after it, and no more
pub record IsTable (text : List ℕ) : Type 0 where
  pub long : 8 ≤ length text
  pub small : size_of text ≤ 16777216
  pub room : length text ≡ 8 + pieces_of (size_of text) * 20
