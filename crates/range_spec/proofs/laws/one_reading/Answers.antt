use Rattle.range_spec.proofs.OneReading.{one_reading as one_list_of_specs, one_answer}
use Rattle.range_spec.proofs.laws.one_reading.Goals as goal

pub returns : goal.returns
returns c = record { asked = one_list_of_specs; understood = one_answer }
