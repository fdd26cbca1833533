-- The flights of a node as those of a `FlightTable`.
use Rattle.std.specs.Prelude.{ℕ, ◌+◌, List, [], ◌∷◌, length, if◌then◌else◌}
use Rattle.std.specs.FinMap.{from_entries}
use Rattle.host_names.specs.declared.digests.Digest.{Digest}
use Rattle.single_flight.specs.Calls.{Call, DoInTurn}
use Rattle.single_flight.specs.Open.{OpenFlight, OpenFlights, no_flights}
use Rattle.world_node.specs.declared.flights.Flight.{Flight}

-- the flight of a number, whose outcome is set in the cell that is given to this number
abbrev pub numbered : (ℕ → ℕ) → ℕ → OpenFlight
numbered cells n = record { number = n; outcome = cells n }

-- of these flights, which are numbered from n on, those that are open, each under its key
abbrev pub open_ones : (ℕ → ℕ) → ℕ → List Flight → List (Digest × OpenFlight)
open_ones cells n [] = []
open_ones cells n (f ∷ flights) =
    if f.is_open then (f.key, numbered cells n) ∷ open_ones cells (n + 1) flights else open_ones cells (n + 1) flights

-- the table that has begun these flights, of which some are open
abbrev pub table_of : (ℕ → ℕ) → List Flight → OpenFlights
table_of cells flights = record { flights = from_entries (open_ones cells 0 flights); begun = length flights }

-- calls of a table that had begun no flight lead to the one that has begun these
abbrev pub AreOfATable : (ℕ → ℕ) → List Flight → Type 0
AreOfATable cells flights = (calls : List Call) × DoInTurn no_flights calls (table_of cells flights)
