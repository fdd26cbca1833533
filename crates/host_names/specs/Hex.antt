-- The text of a digest.
use Rattle.std.specs.Prelude.{ℕ, ◌≡◌, List, length}
use Rattle.std.specs.List.{AllPass}
use Rattle.hex.specs.Hex.{is_hex_digit}

-- 40 hexadecimal digits, of either case
abbrev pub IsDigestText : List ℕ → Type 0
IsDigestText text = (length text ≡ 40) × AllPass is_hex_digit text
