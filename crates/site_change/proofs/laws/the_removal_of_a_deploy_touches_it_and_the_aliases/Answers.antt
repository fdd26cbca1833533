use Rattle.site_change.proofs.Touching.{by_removal}
use Rattle.site_change.proofs.laws.the_removal_of_a_deploy_touches_it_and_the_aliases.Goals as goal

pub returns : goal.returns
returns c site m number state at = by_removal site m at number state
