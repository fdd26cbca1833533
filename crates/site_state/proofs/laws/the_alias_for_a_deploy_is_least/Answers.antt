use Rattle.site_state.proofs.LeastAlias.{least_alias}
use Rattle.site_state.proofs.laws.the_alias_for_a_deploy_is_least.Goals as goal

pub returns : goal.returns
returns c = least_alias
