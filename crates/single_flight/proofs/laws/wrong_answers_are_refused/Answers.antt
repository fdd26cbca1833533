use Rattle.std.proofs.Common.{sym, ap, ◌∙◌}
use Rattle.std.specs.FinMap as map
use Rattle.host_names.specs.Digests.{digest_cmp}
use Rattle.single_flight.specs.Open.{OpenFlight}
use Rattle.single_flight.specs.Flights.{seen}
use Rattle.single_flight.proofs.Options.{given}
use Rattle.single_flight.proofs.laws.wrong_answers_are_refused.Goals as goal

pub returns-clause-joined : goal.returns-clause-joined
returns-clause-joined g c key flight new joins = absurd (cc (sym (map.get-empty digest_cmp key) ∙ joins.0))

pub returns-clause-other : goal.returns-clause-other
returns-clause-other g c old new key open_one flight here other joins =
    absurd (other (ap (λ (f : OpenFlight). f.number) (given (seen flight.value) open_one (sym joins.0 ∙ here))))

pub returns-clause-led : goal.returns-clause-led
returns-clause-led g c old new key open_one lead here leads = absurd (cc (sym leads.0 ∙ here))
