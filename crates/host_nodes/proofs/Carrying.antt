-- A step of a connection of a node.
use Rattle.std.proofs.Common.{◌≡◌, ℕ, List, [], Option, None, Some, subst, sym}
use Rattle.std.specs.Prelude.{Box}
use Rattle.std.specs.declared.alloc.Global.{Global}
use Rattle.std.specs.Option.{MatchOption}
use Rattle.http_wire.specs.Timing.{Event}
use Rattle.host_connection.specs.Carrying.{Carries, Leads}
use Rattle.host_connection.specs.declared.steps.Connection.{Connection}
use Rattle.host_connection.specs.declared.steps.Progress.{Progress}
use Rattle.host_connection.specs.Resting.{IsResting}
use Rattle.host_connection.proofs.Carried.{at_rest}
use Rattle.host_connection.proofs.Walking.{carried_on}
use Rattle.shared_house.specs.Desks.{HouseCall}
use Rattle.shared_house.specs.Guests.{IsGuestAnswer}
use Rattle.shared_house.specs.Seeing.{Known}
use Rattle.tcp_socket.specs.Trails.{notes}
use Rattle.host_nodes.specs.Carried.{IsCarried, IsKept}

-- what a step leads to from all that was done so far is all that is done then
pub carries_on : (did : HouseCall → Type 0) (waits : List Event → Type 0) (old_trail new_trail : List Event) (old_note new_note : Known) (old new : Connection) (p : Progress)
    → ((start : List Event) (first : Known) → Carries (IsGuestAnswer did) notes (Unit {0}) start first old_trail old_note old
    → Leads (IsGuestAnswer did) notes (Unit {0}) waits start first new_trail new_note new p)
    → IsCarried did old_trail old_note old → IsCarried did new_trail new_note new
carries_on did waits old_trail new_trail old_note new_note old new p leads (first, so) =
    (first, carried_on (IsGuestAnswer did) notes (Unit {0}) waits [] new_trail first new_note new p (leads [] first so))

-- a connection in a room has done what that has which is kept
pub in_room : (did : HouseCall → Type 0) (trail : List Event) (note : Known) (kept : Option (Box Connection Global)) (number : ℕ) (c : Box Connection Global)
    → MatchOption kept (IsResting number c.value) (λ old. c ≡ old) → IsKept did trail note kept number → IsCarried did trail note c.value
in_room did trail note None number c rests is = is c.value rests
in_room did trail note (Some old) number c same is = subst (λ (d : Box Connection Global). IsCarried did trail note d.value) (sym same) is

-- and what is kept of it has done the same
pub out_of_room : (did : HouseCall → Type 0) (trail : List Event) (note : Known) (kept : Option (Box Connection Global)) (number : ℕ) (c : Box Connection Global)
    → MatchOption kept (IsResting number c.value) (λ d. d ≡ c) → IsCarried did trail note c.value → IsKept did trail note kept number
out_of_room did trail note None number c rests (first, so) =
    λ d other. (first, at_rest (IsGuestAnswer did) notes (Unit {0}) [] trail first note number c.value d rests other so)
out_of_room did trail note (Some d) number c same is = subst (λ (e : Box Connection Global). IsCarried did trail note e.value) (sym same) is
