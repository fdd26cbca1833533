-- Seats that are given back.
use Rattle.std.specs.Prelude.{ℕ, Option, Some, None}
use Rattle.site_desk.specs.Seats.{Tally}

-- how many they are; none where there are none
abbrev pub seats_of : Option Tally → ℕ
seats_of None = 0
seats_of (Some all) = all.seats

-- how many entries were made from them
abbrev pub made_of : Option Tally → ℕ
made_of None = 0
made_of (Some all) = all.made
