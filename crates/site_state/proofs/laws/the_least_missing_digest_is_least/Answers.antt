use Rattle.site_state.proofs.LackingDigests.{IsLeast-least_missing_of}
use Rattle.site_state.proofs.laws.the_least_missing_digest_is_least.Goals as goal

pub returns : goal.returns
returns c = IsLeast-least_missing_of
