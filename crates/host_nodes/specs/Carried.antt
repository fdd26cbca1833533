-- What a connection of a node has done.
use Rattle.std.specs.Prelude.{ℕ, List, [], Box, Option, None, Some}
use Rattle.std.specs.declared.alloc.Global.{Global}
use Rattle.http_wire.specs.Timing.{Event}
use Rattle.host_connection.specs.Carrying.{Carries}
use Rattle.host_connection.specs.Resting.{IsResting}
use Rattle.host_connection.specs.declared.steps.Connection.{Connection}
use Rattle.shared_house.specs.Desks.{HouseCall}
use Rattle.shared_house.specs.Guests.{IsGuestAnswer}
use Rattle.shared_house.specs.Seeing.{Known}
use Rattle.tcp_socket.specs.Trails.{notes}

-- All that went over its socket, from the first byte on, is what answers of houses over notes made of it, each with the note that the one before left; and
-- this is the note that the last one left.
abbrev pub IsCarried : (did : HouseCall → Type 0) → (trail : List Event) → (note : Known) → Connection → Type 0
IsCarried did trail note connection = (first : Known) × Carries (IsGuestAnswer did) notes (Unit {0}) [] first trail note connection

-- The same of one that takes no room: whichever connection rests before the request of this number goes on as this one.
abbrev pub IsKept : (did : HouseCall → Type 0) → (trail : List Event) → (note : Known) → Option (Box Connection Global) → (number : ℕ) → Type 0
IsKept did trail note (Some connection) number = IsCarried did trail note connection.value
IsKept did trail note None number = (c : Connection) → IsResting number c → IsCarried did trail note c
