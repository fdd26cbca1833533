use Rattle.std.proofs.Common.{Some, option_map, refl, sym, ap, ◌∙◌}
use Rattle.std.specs.FinMap as map
use Rattle.single_flight.specs.Flights.{seen}
use Rattle.single_flight.specs.Open.{OpenFlights}
use Rattle.single_flight.proofs.Opened.{get-opened}
use Rattle.single_flight.proofs.tables.FlightTable.begin.Goals as goal

pub returns-in_ok-try_clone-in-Some-clause-ok : goal.returns-in_ok-try_clone-in-Some-clause-ok
returns-in_ok-try_clone-in-Some-clause-ok g c = (
  ap (λ (s : OpenFlights). map.get s.flights c.args.key.now) (sym c.self.view_is)
      ∙ get-opened (λ flight. seen flight.value) c.self.inside.flights.entries c.args.key.now
      ∙ ap (option_map (λ flight. seen flight.value)) (sym c.in-Some.ensures.value)
      ∙ ap (λ f. Some (seen f)) (sym c.in_ok-try_clone-in-Some.ensures),
  ap (λ f. f.key) c.in_ok-try_clone-in-Some.ensures
      ∙ c.self.invariant c.args.key.now _ (sym c.in-Some.ensures.value),
  refl,
)

pub returns-in_ok-open-in-None-clause-ok : goal.returns-in_ok-open-in-None-clause-ok
returns-in_ok-open-in-None-clause-ok g c = (
  ap (λ (s : OpenFlights). map.get s.flights c.args.key.now) (sym c.self.view_is)
      ∙ get-opened (λ flight. seen flight.value) c.self.inside.flights.entries c.args.key.now
      ∙ ap (option_map (λ flight. seen flight.value)) (sym c.in-None.ensures.value),
  c.in_ok-open-in-None.ensures.key,
  c.in_ok-open-in-None.ensures.number,
  c.in_ok-open-in-None.ensures.opened,
)
