-- Chunks of a file that are held together.
use Rattle.std.specs.Prelude.{◌≡◌, ℕ, ◌+◌, ◌-◌, ◌*◌, ◌^◌, ◌<◌, ◌≤◌, List, length, map, slice_range}
use Rattle.std.specs.List.{concat}
use Rattle.host_names.specs.Digests.{digest_of}
use Rattle.byte_view.specs.Cuts.{pieces_met, place_of, slice}
use Rattle.byte_view.specs.Parts.{parts}

-- a stretch of a file, from its first to its last byte, and the bytes of the chunks that it meets
pub record Held : Type 0 where
  pub file : List ℕ
  pub first : ℕ
  pub last : ℕ
  pub chunks : List (List ℕ)

-- the stretch is in the file, whose size is below 2 ^ 64, and each chunk has the name and the length of its piece
pub record IsHeld (h : Held) : Type 0 where
  pub ordered : h.first ≤ h.last
  pub within : h.last < length h.file
  pub fits : length h.file < 2 ^ 64
  pub named : map digest_of h.chunks ≡ map digest_of (pieces_met h.file h.first h.last)
  pub long : map length h.chunks ≡ map length (pieces_met h.file h.first h.last)

-- another stretch is in the one that is held
pub record LiesIn (h : Held) (first last : ℕ) : Type 0 where
  pub from : h.first ≤ first
  pub ordered : first ≤ last
  pub to : last ≤ h.last

-- where the first held chunk begins in the file
abbrev pub start_of : Held → ℕ
start_of h = place_of h.first * 65536

-- that stretch of the held chunks
abbrev pub held_part : Held → ℕ → ℕ → List ℕ
held_part h first last = slice (concat h.chunks) (first - start_of h) (last - start_of h)

-- the held chunks that have a byte of a stretch
abbrev pub chunks_met : Held → ℕ → ℕ → List (List ℕ)
chunks_met h first last = slice_range h.chunks (place_of first - place_of h.first) (place_of last + 1 - place_of h.first)

-- what a stretch has of each chunk that it meets
abbrev pub lent : Held → ℕ → ℕ → List (List ℕ)
lent h first last = parts (chunks_met h first last) (first - place_of first * 65536) (last + 1 - place_of first * 65536)
