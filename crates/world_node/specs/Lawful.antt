-- What holds of a node after every list of steps.
use Rattle.std.specs.Prelude.{◌≡◌, ◌≢◌, ℕ, Bool, true, List, [], ◌∷◌, slice_get, Option, Some, None}
use Rattle.std.specs.List.{AllByRecursion}
use Rattle.host_names.specs.Digests.{digest_of}
use Rattle.host_names.specs.declared.digests.Digest.{Digest}
use Rattle.world_node.specs.declared.flights.Flight.{Flight}
use Rattle.world_node.specs.declared.readers.Got.{Got}
use Rattle.world_node.specs.Nodes.{NodeState, Landing, ReaderState}

-- no later flight that is open is of the key of an open one
abbrev pub OpenOnce : List Flight → Type 0
OpenOnce [] = Unit {0}
OpenOnce (f ∷ flights) = (f.is_open ≡ true → AllByRecursion (λ g. g.is_open ≡ true → f.key ≢ g.key) flights) × OpenOnce flights

-- the flight of this number is of the key and came to this
pub record CameTo (flights : List Flight) (n : ℕ) (key : Digest) (outcome : Landing) : Type 0 where
  pub flight : Flight
  pub there : slice_get flights n ≡ Some flight
  pub key_is : flight.key ≡ key
  pub outcome_is : flight.outcome ≡ Some outcome

-- a chunk has the name
abbrev pub IsNamed : Digest → Landing → Type 0
IsNamed key None = Unit {0}
IsNamed key (Some chunk) = digest_of chunk ≡ key

-- what was got in a flight is what the flight came to
abbrev pub IsOfFlight : List Flight → Got → Option ℕ → Type 0
IsOfFlight flights got None = Unit {0}
IsOfFlight flights got (Some n) = CameTo flights n got.key got.outcome

-- and a chunk that was got has the name that was wanted
abbrev pub IsRight : List Flight → Got → Type 0
IsRight flights got = IsOfFlight flights got got.flight × IsNamed got.key got.outcome

-- so it is with all that readers have got
abbrev pub ReadersAgree : NodeState → Type 0
ReadersAgree w = AllByRecursion (λ v. AllByRecursion (IsRight w.flights) v.got) w.readers
