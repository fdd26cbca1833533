-- The hash of the program's rings.
use Rattle.std.specs.Prelude.{ℕ, List, take}
use Rattle.std.specs.Int.{from_be_bytes, w32}
use Rattle.sha1.specs.Sha1.{sha1}

-- the first four bytes of the SHA-1 digest (FIPS 180-4), the highest first
abbrev pub digest_hash : List ℕ → ℕ
digest_hash bytes = from_be_bytes w32 (take 4 (sha1 bytes))
