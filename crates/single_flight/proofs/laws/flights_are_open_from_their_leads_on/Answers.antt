use Rattle.single_flight.proofs.InFlight.{open_from_lead_to_end}
use Rattle.single_flight.proofs.laws.flights_are_open_from_their_leads_on.Goals as goal

pub returns : goal.returns
returns c = open_from_lead_to_end
