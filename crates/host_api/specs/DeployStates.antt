-- The two parts of a deploy's text that depend on its state.
use Rattle.std.specs.Prelude.{ℕ, List, [], codes}
use Rattle.host_names.specs.declared.digests.Digest.{Digest}
use Rattle.host_api.specs.declared.texts.DeployState.{DeployState}
use Rattle.host_api.specs.declared.texts.DeployState.TheVariants.{Open, Kept}

-- the word for the state of a deploy
abbrev pub state_name : DeployState → List ℕ
state_name (Open required) = codes "open"
state_name Kept = codes "kept"

-- the digests of the deploy's files that are missing
abbrev pub required_of : DeployState → List Digest
required_of (Open required) = required
required_of Kept = []
