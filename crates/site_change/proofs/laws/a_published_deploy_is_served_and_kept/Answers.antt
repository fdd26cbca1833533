use Rattle.site_change.proofs.Leaving.{leaves_deploy}
use Rattle.site_change.proofs.laws.a_published_deploy_is_served_and_kept.Goals as goal

pub returns : goal.returns
returns c = leaves_deploy
