use Rattle.site_state.proofs.Items.{named_as}
use Rattle.site_state.proofs.states.State.aliases_are_named.Goals as goal

pub returns : goal.returns
returns c = named_as _ _ c.self.invariant c.self.view_is
