-- What a stretch has of chunks that follow one another.
use Rattle.std.specs.Prelude.{◌≡◌, ℕ, ◌-◌, ◌*◌, ◌<◌, List, [], ◌∷◌, length, min, slice_range, slice_index_or}

-- of each chunk its bytes between two places, which are counted from the start of the first chunk, and where each chunk
-- begins 65,536 bytes after the one before
abbrev pub parts : List (List ℕ) → ℕ → ℕ → List (List ℕ)
parts [] from to = []
parts (chunk ∷ chunks) from to = slice_range chunk from to ∷ parts chunks (from - 65536) (to - 65536)

-- each chunk is as long as its piece, where so many bytes of the file are left from the first piece on; past the end of the file it is empty
abbrev pub HaveSizes : List (List ℕ) → ℕ → Type 0
HaveSizes chunks left = (k : ℕ) → k < length chunks → length (slice_index_or chunks k []) ≡ min 65536 (left - k * 65536)
