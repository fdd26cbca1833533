use Rattle.connection_rules.proofs.Found.{is_least}
use Rattle.connection_rules.proofs.laws.the_one_that_is_found_has_the_least.Goals as goal

pub returns : goal.returns
returns c = is_least
