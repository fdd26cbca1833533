-- The connections of a worker by their places, and what an event makes of them.
use Rattle.std.specs.Prelude.{◌≡◌, ◌&&◌, ◌+◌, ◌<◌, ◌≤◌, ◌^◌, ◌==◌, ◌++◌, ◌∷◌, [], ℕ, Bool, true, false, List, Option, None, Some, IsSome, IfSome, if◌then◌else◌, length, count_by, nat_lt, not, option_map, slice_index_or, slice_set}
use Rattle.std.specs.Option.{option_and_then}
use Rattle.connection_rules.specs.Standings.{are_crowding}
use Rattle.connection_rules.specs.declared.limits.Limits.{Limits}
use Rattle.worker_connections.specs.Clients.{after, interest_of, is_live, is_new, turn_of as turn_of_client, unless_drained}
use Rattle.worker_connections.specs.declared.clients.Turn.{Turn}
use Rattle.worker_connections.specs.declared.clients.Turn.TheVariants as turn
use Rattle.worker_connections.specs.declared.steps.Step.{Step}
use Rattle.worker_connections.specs.declared.clients.Client.{Client}
use Rattle.worker_connections.specs.declared.clients.State.{State}
use Rattle.worker_connections.specs.declared.clients.State.TheVariants.{Away, Closing, Left}
use Rattle.worker_connections.specs.declared.steps.Holding.{Holding}
use Rattle.worker_connections.specs.declared.steps.Holding.TheVariants.{Nothing, Body, Reply}
use Rattle.worker_connections.specs.declared.changes.Change.{Change}
use Rattle.worker_connections.specs.declared.changes.Fate.{Fate}
use Rattle.worker_connections.specs.declared.changes.Fate.TheVariants.{Stays, Leaves, ClosesSide, Ends}
use Rattle.worker_connections.specs.declared.changes.Name.{Name}

-- each place is free or has one connection; so many came; whether the node drains
pub record Held : Type 0 where
  pub places : List (Option Client)
  pub came : ℕ
  pub drains : Bool

-- a place has a connection that has not ended
abbrev pub is_live_in : Option Client → Bool
is_live_in None = false
is_live_in (Some client) = is_live client

-- how many connections have not ended
abbrev pub count_live : List (Option Client) → ℕ
count_live places = count_by is_live_in places

-- how many are new
abbrev pub is_new_in : Limits → ℕ → Option Client → Bool
is_new_in limits now None = false
is_new_in limits now (Some client) = is_new limits now client

abbrev pub count_new : Limits → ℕ → List (Option Client) → ℕ
count_new limits now places = count_by (is_new_in limits now) places

-- they crowd the others
abbrev pub do_crowd : Limits → ℕ → List (Option Client) → Bool
do_crowd limits now places = are_crowding (count_new limits now places) (count_live places)

-- the connection in a place is one of those that came
abbrev pub CameBefore : ℕ → Option Client → Type 0
CameBefore came place = IfSome place (λ client. client.number < came)

-- what is in a place; nothing, where there are fewer
abbrev pub place_at : List (Option Client) → ℕ → Option Client
place_at places at = slice_index_or places at None

-- each one that came has gone or is there, and no number is given that is still to come
pub record IsSound (places : List (Option Client)) (came gone : ℕ) : Type 0 where
  pub fits : came < 2 ^ 64
  pub counted : gone + count_live places ≡ came
  pub numbered : (at : ℕ) → CameBefore came (place_at places at)

-- one that has not ended has ended then
abbrev pub lost : Client → Option Client → ℕ
lost old new = if is_live old && not (is_live_in new) then 1 else 0

-- the one with this number
abbrev pub with_number : ℕ → Option Client → Option Client
with_number number None = None
with_number number (Some client) = if client.number == number then Some client else None

-- the connection of this name
abbrev pub named : Name → List (Option Client) → Option Client
named name places = with_number name.number (place_at places name.place)

-- the first place that is free, or one more
pub record IsFirstFree (places : List (Option Client)) (at : ℕ) : Type 0 where
  pub within : at ≤ length places
  pub free : place_at places at ≡ None
  pub first : (k : ℕ) → k < at → IsSome (place_at places k)

-- a connection comes into a place that is free, or into one more
abbrev pub placed : ℕ → Client → List (Option Client) → List (Option Client)
placed at client places = if nat_lt at (length places) then slice_set places at (Some client) else places ++ Some client ∷ []

-- what an event makes of the connection of this name: no other place changes, and nothing does where it has ended
abbrev pub becomes_in : Option Client → (Client → Option Client) → Name → Held → Held
becomes_in None f name held = held
becomes_in (Some old) f name held = record held { places = slice_set held.places name.place (f old) }

abbrev pub becomes : (Client → Option Client) → Name → Held → Held
becomes f name held = becomes_in (named name held.places) f name held

-- what a connection is after a step; none, where it is over, or idle while the node drains
abbrev pub stepped : Bool → Step → Limits → ℕ → Client → Option Client
stepped drains step limits now old = option_and_then (unless_drained drains) (after step limits now old)

-- what is to be done in the turn of a connection
abbrev pub turn_of : Option Client → Turn
turn_of None = turn.Nothing
turn_of (Some client) = turn_of_client client

-- what is to be done with a connection that was there
abbrev pub fate_in : State → State → Fate
fate_in Closing Closing = Stays
fate_in old Closing = ClosesSide
fate_in Away Away = Stays
fate_in old Away = Leaves
fate_in Left Left = Stays
fate_in old Left = Ends
fate_in old new = Stays

-- one that is no longer there has ended then, unless it had ended before and a thread had it still
abbrev pub fate_at_end : Bool → Fate
fate_at_end true = Ends
fate_at_end false = Stays

-- a change: what is to be done with the connection, what its socket was waited for and is waited for, what counted for it and counts
abbrev pub change_between : Client → Option Client → Change
change_between old None = record { fate = fate_at_end (is_live old); waited = interest_of old; waits = None; held = old.holds; holds = Nothing }
change_between old (Some new) = record { fate = fate_in old.state new.state; waited = interest_of old; waits = interest_of new; held = old.holds; holds = new.holds }

-- the change that an event makes
abbrev pub change_by : (Client → Option Client) → Name → Held → Option Change
change_by f name held = option_map (λ old. change_between old (f old)) (named name held.places)

-- an event doesn't change the number of a connection
abbrev pub KeepsNumbers : (Client → Option Client) → Type 0
KeepsNumbers f = (old : Client) → IfSome (f old) (λ new. new.number ≡ old.number)

-- how many bytes of a body are held
abbrev pub bytes_of : Holding → ℕ
bytes_of Nothing = 0
bytes_of (Body held) = held
bytes_of (Reply held) = 0

abbrev pub bytes_in : Option Client → ℕ
bytes_in None = 0
bytes_in (Some client) = bytes_of client.holds

-- the number of what is in a place, if it is one of those that are looked for
abbrev pub number_in : (Client → Option ℕ) → Option Client → Option ℕ
number_in f None = None
number_in f (Some client) = f client

-- the places of those that are looked for, with their numbers; the first place is this one
abbrev pub with_place : ℕ → Option ℕ → List (ℕ × ℕ) → List (ℕ × ℕ)
with_place at None rest = rest
with_place at (Some number) rest = (at, number) ∷ rest

abbrev pub numbers_from : (Client → Option ℕ) → ℕ → List (Option Client) → List (ℕ × ℕ)
numbers_from f at [] = []
numbers_from f at (place ∷ places) = with_place at (number_in f place) (numbers_from f (at + 1) places)

-- there is none in these places that is looked for
abbrev pub HasNone : (Client → Option ℕ) → List (Option Client) → (from to : ℕ) → Type 0
HasNone f places from to = (k : ℕ) → from ≤ k → k < to → number_in f (place_at places k) ≡ None

-- the first place from one on that has one of those that are looked for
abbrev pub IsFirstFrom : (Client → Option ℕ) → ℕ → List (Option Client) → Option ℕ → Type 0
IsFirstFrom f from places None = HasNone f places from (length places)
IsFirstFrom f from places (Some at) =
    (from ≤ at) × (at < length places) × IsSome (number_in f (place_at places at)) × HasNone f places from at
