use Rattle.byte_view.proofs.Wholes.{whole-pure}
use Rattle.byte_view.proofs.laws.holds_show_their_stretches.Goals as goal

pub returns : goal.returns
returns c = whole-pure
