-- Calls of a table, and which flights they leave open.
use Rattle.std.specs.Prelude.{◌≡◌, ◌≢◌, ◌+◌, List, [], ◌∷◌, ◌++◌, None, Some}
use Rattle.std.specs.FinMap.{get, insert, remove}
use Rattle.std.specs.List.{AllByRecursion}
use Rattle.host_names.specs.declared.digests.Digest.{Digest}
use Rattle.single_flight.specs.Open.{OpenFlight, OpenFlights}

-- a flight of a key was led; one was joined; the one that is open was finished
pub data Call : Type 0 where
  Led : (key : Digest) (flight : OpenFlight) → Call
  Joined : (key : Digest) (flight : OpenFlight) → Call
  Finished : (key : Digest) → Call

-- what the clauses of `begin` and `finish` say of a call
abbrev pub Does : OpenFlights → Call → OpenFlights → Type 0
Does old (Led key flight) new =
    (get old.flights key ≡ None) × (flight.number ≡ old.begun) × (new ≡ record { flights = insert old.flights key flight; begun = old.begun + 1 })
Does old (Joined key flight) new = (get old.flights key ≡ Some flight) × (new ≡ old)
Does old (Finished key) new = new ≡ record old { flights = remove old.flights key }

-- a table goes through these calls
abbrev pub DoInTurn : OpenFlights → List Call → OpenFlights → Type 0
DoInTurn old [] new = new ≡ old
DoInTurn old (call ∷ calls) new = (mid : OpenFlights) × Does old call mid × DoInTurn mid calls new

-- this flight of the key was led by one of the calls, and no later one finished it
pub record IsInFlight (calls : List Call) (key : Digest) (flight : OpenFlight) : Type 0 where
  pub before : List Call
  pub after : List Call
  pub led : calls ≡ before ++ Led key flight ∷ after
  pub unfinished : AllByRecursion (λ call. call ≢ Finished key) after
