use Rattle.std.proofs.Common.{rules, ◌≡◌, ◌+◌, ap, ◌∙◌}
use Rattle.std.specs.FinMap as map
use Rattle.single_flight.specs.Flights.{seen}
use Rattle.single_flight.specs.Open.{OpenFlights}
use Rattle.single_flight.proofs.Opened.{of_keys-insert, opened-insert}
use Rattle.single_flight.proofs.tables.FlightTable.open.Goals as goal

pub returns-clause-opened : goal.returns-clause-opened
returns-clause-opened g c =
    let inserted = opened-insert (λ flight. seen flight.value) c.self.inside.flights.entries c.insert.new.self.entries c.args.key c.in_ok-kept.kept c.in_ok-insert.ensures.updates.0
    ∙ ap (λ (s : OpenFlights). map.insert s.flights c.args.key (seen c.in_ok-kept.kept.value)) c.self.view_is
    ∙ ap (λ f. map.insert c.args.self.now.flights c.args.key (seen f)) c.in_ok-kept.ensures in
    let more : c.in_ok-begun.begun ≡ c.args.self.now.begun + 1 = search rules in
    λ i. record { flights = inserted i; begun = more i }

pub invariant_of-self-2 : goal.invariant_of-self-2
invariant_of-self-2 g c =
    of_keys-insert (λ flight. flight.value.key) c.self.inside.flights.entries c.insert.new.self.entries c.args.key c.in_ok-kept.kept c.self.invariant
    (ap (λ f. f.key) c.in_ok-kept.ensures ∙ ap (λ f. f.key) c.in_ok-flight.ensures.ok ∙ c.new.ensures.key) c.in_ok-insert.ensures.updates.0
