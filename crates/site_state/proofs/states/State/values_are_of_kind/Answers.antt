use Rattle.site_state.proofs.Items.{of_kind_as}
use Rattle.site_state.proofs.states.State.values_are_of_kind.Goals as goal

pub returns : goal.returns
returns c = of_kind_as _ _ c.self.invariant.are_items c.self.view_is
