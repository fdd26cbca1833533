use Rattle.range_spec.proofs.Selecting.{interval_has}
use Rattle.range_spec.proofs.laws.interval_is_what_is_asked_for.Goals as goal

pub returns : goal.returns
returns c = interval_has
