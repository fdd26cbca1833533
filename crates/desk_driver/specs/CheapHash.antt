-- A hash that costs little.
use Rattle.std.specs.Prelude.{ℕ, ◌+◌, ◌*◌, ◌%◌, ◌^◌, List, [], ◌∷◌}

-- each byte is added, and the sum multiplied, in 32 bits
abbrev pub cheap_hash : ℕ → List ℕ → ℕ
cheap_hash hash [] = hash
cheap_hash hash (byte ∷ bytes) = cheap_hash (((hash + byte) % 2 ^ 32 * 16777619) % 2 ^ 32) bytes
