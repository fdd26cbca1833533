use Rattle.site_change.proofs.LeftOut.{can_be_left_out}
use Rattle.site_change.proofs.laws.a_change_can_be_left_out.Goals as goal

pub returns : goal.returns
returns c = can_be_left_out
