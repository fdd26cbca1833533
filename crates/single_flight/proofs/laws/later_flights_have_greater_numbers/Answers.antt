use Rattle.single_flight.proofs.Numbers.{greater}
use Rattle.single_flight.proofs.laws.later_flights_have_greater_numbers.Goals as goal

pub returns : goal.returns
returns c = λ old new before between after key later_key flight later. greater before between after old new key later_key flight later
