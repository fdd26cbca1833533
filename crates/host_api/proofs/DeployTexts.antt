-- The text of a deploy, by what its state says.
use Rattle.std.proofs.Common.{◌≡◌, ℕ, refl}
use Rattle.host_names.specs.declared.names.SiteName.{SiteName}
use Rattle.host_api.specs.DeployStates.{state_name, required_of}
use Rattle.host_api.specs.Texts.{deploy_text, told_text}
use Rattle.host_api.specs.declared.texts.DeployState.{DeployState}
use Rattle.host_api.specs.declared.texts.DeployState.TheVariants.{Open, Kept}
use Rattle.host_api.specs.declared.texts.Told.TheVariants.{Deploy}

pub told_deploy : (id : ℕ) (site : SiteName) (state : DeployState) → told_text (Deploy id site state) ≡ deploy_text id site (required_of state) (state_name state)
told_deploy id site (Open required) = refl
told_deploy id site Kept = refl
