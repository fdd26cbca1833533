use Rattle.std.proofs.Common.{ap, ◌∙◌}
use Rattle.std.specs.FinMap as map
use Rattle.single_flight.specs.Flights.{seen}
use Rattle.single_flight.specs.Open.{OpenFlights}
use Rattle.single_flight.proofs.Opened.{of_keys-remove, opened-remove}
use Rattle.single_flight.proofs.tables.FlightTable.finish.Goals as goal

pub returns-clause-ended : goal.returns-clause-ended
returns-clause-ended g c =
    let key = c.deref.result.now.key in
    let removed = opened-remove (λ flight. seen flight.value) c.self.inside.flights.entries c.remove.new.self.entries key c.remove.ensures.updates.0
    ∙ ap (λ (s : OpenFlights). map.remove s.flights key) c.self.view_is
    ∙ ap (λ flight. map.remove c.args.self.now.flights flight.key) c.deref.ensures in
    let same = ap (λ (s : OpenFlights). s.begun) c.self.view_is in
    λ i. record { flights = removed i; begun = same i }

pub invariant_of-self : goal.invariant_of-self
invariant_of-self g c =
    of_keys-remove (λ flight. flight.value.key) c.self.inside.flights.entries c.remove.new.self.entries c.deref.result.now.key c.self.invariant c.remove.ensures.updates.0
