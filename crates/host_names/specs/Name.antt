-- Names of sites and aliases, as lists of bytes.
use Rattle.std.specs.Prelude.{ℕ, Bool, List, length, nat_le, ◌==◌, ◌&&◌, ◌||◌}
use Rattle.std.specs.List.{list_all}

-- a letter from a to z, a digit, or a hyphen
abbrev pub is_name_byte : ℕ → Bool
is_name_byte c = (nat_le 97 c && nat_le c 122) || (nat_le 48 c && nat_le c 57) || (c == 45)

-- from 1 to 63 such bytes
abbrev pub is_name : List ℕ → Bool
is_name text = nat_le 1 (length text) && nat_le (length text) 63 && list_all is_name_byte text
