-- Files cut into pieces of 65,536 bytes and a rest.
use Rattle.std.specs.Prelude.{◌≡◌, ℕ, zero, suc, ◌+◌, ◌/◌, List, [], ◌∷◌, ◌++◌, ◌≤◌, length, take, drop, map, slice_range, Contains}
use Rattle.host_names.specs.declared.digests.Digest.{Digest}
use Rattle.host_names.specs.Digests.{digest_of}

-- so many pieces of a file, from its start
abbrev pub cut_into : ℕ → List ℕ → List (List ℕ)
cut_into zero file = []
cut_into (suc n) file = take 65536 file ∷ cut_into n (drop 65536 file)

-- all pieces of a file: 65,536 bytes each, and the rest; the empty file has none
abbrev pub cut : List ℕ → List (List ℕ)
cut file = cut_into ((length file + 65535) / 65536) file

-- the names of its pieces, which are their digests
abbrev pub names_of : List ℕ → List Digest
names_of file = map digest_of (cut file)

-- the place of the piece that has the byte at i
abbrev pub place_of : ℕ → ℕ
place_of i = i / 65536

-- the pieces that have a byte of a stretch, from its first to its last byte
abbrev pub pieces_met : List ℕ → ℕ → ℕ → List (List ℕ)
pieces_met file first last = slice_range (cut file) (place_of first) (place_of last + 1)

-- the bytes of a stretch, both ends included
abbrev pub slice : List ℕ → ℕ → ℕ → List ℕ
slice bytes first last = slice_range bytes first (last + 1)

-- these bytes differ from no piece of the file that has the same SHA-1 digest
abbrev pub IsPure : List ℕ → List ℕ → Type 0
IsPure file bytes = (piece : List ℕ) → Contains (cut file) piece → digest_of bytes ≡ digest_of piece → bytes ≡ piece

-- a file of at most 16,777,216 bytes is cut into the pieces of what comes before, and then these bytes
abbrev pub Follows : List ℕ → List ℕ → Type 0
Follows before piece = (cut (before ++ piece) ≡ cut before ++ piece ∷ []) × (length (before ++ piece) ≤ 16777216)
