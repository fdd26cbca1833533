use Rattle.single_flight.specs.Open.{no_flights}
use Rattle.single_flight.proofs.InFlight.{joins_what_was_led, open_from_lead_to_end}
use Rattle.single_flight.proofs.laws.a_joiner_has_the_flight_that_was_led.Goals as goal

pub returns : goal.returns
returns c = λ before after new key flight run.
    let at = joins_what_was_led before after no_flights new key flight run in
    (open_from_lead_to_end before at.0 at.1 key flight).0 at.2
