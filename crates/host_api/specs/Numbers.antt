-- The numbers of deploys and changes, as a target or a body writes them.
use Rattle.std.specs.Prelude.{ℕ, Bool, false, List, [], ◌∷◌, nat_le, not, ◌==◌, ◌&&◌, if◌then◌else◌}
use Rattle.std.specs.Char.{is_digit}
use Rattle.std.specs.List.{list_all}
use Rattle.std.specs.Str.{byte}
use Rattle.std.specs.Str.Parse.{digits_value}

-- the greatest number that an entry can have
abbrev pub greatest_number : ℕ
greatest_number = 1000000

-- decimal digits, the first of them not 0, of a value that an entry can have
abbrev pub is_number : List ℕ → Bool
is_number [] = false
is_number (b ∷ text) =
    not (b == byte "0") && list_all (λ c. is_digit c 10) (b ∷ text)
    && nat_le (digits_value 10 (b ∷ text)) greatest_number

-- the number that the text writes, or 0, which no entry has
abbrev pub number_of : List ℕ → ℕ
number_of text = if is_number text then digits_value 10 text else 0
