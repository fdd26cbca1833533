-- When a call leads a flight, and when it joins one.
use Rattle.std.specs.Prelude.{◌≡◌, ◌+◌, None, Some}
use Rattle.std.specs.FinMap.{get, insert}
use Rattle.host_names.specs.declared.digests.Digest.{Digest}
use Rattle.single_flight.specs.Open.{OpenFlight, OpenFlights}
use Rattle.single_flight.specs.declared.tables.Begun.{Begun}
use Rattle.single_flight.specs.declared.tables.Begun.TheVariants.{Lead, Join}
use Rattle.single_flight.specs.declared.tables.Flight.{Flight}

-- what contracts of a table see of a flight
abbrev pub seen : {T : Type 0} → Flight T → OpenFlight
seen flight = record { number = flight.number; outcome = flight.outcome.id }

-- it leads where no flight of the key was open: one is from then on, which has the next number. Else it joins the one that is, and nothing changes.
-- The flight has that key
abbrev pub Begins : {T : Type 0} → OpenFlights → Digest → Begun T → OpenFlights → Type 0
Begins old key (Lead lead) new =
    (get old.flights key ≡ None) × (lead.flight.value.key ≡ key) × (lead.flight.value.number ≡ old.begun)
    × (new ≡ record { flights = insert old.flights key (seen lead.flight.value); begun = old.begun + 1 })
Begins old key (Join flight) new = (get old.flights key ≡ Some (seen flight.value)) × (flight.value.key ≡ key) × (new ≡ old)
