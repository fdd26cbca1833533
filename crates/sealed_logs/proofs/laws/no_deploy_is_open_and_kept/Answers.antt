use Rattle.sealed_logs.proofs.Seals.{never-both}
use Rattle.sealed_logs.proofs.laws.no_deploy_is_open_and_kept.Goals as goal

pub returns : goal.returns
returns c = never-both
