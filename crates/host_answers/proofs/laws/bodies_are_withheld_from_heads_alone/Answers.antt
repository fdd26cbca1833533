use Rattle.host_answers.proofs.Withheld.{withheld_to_head}
use Rattle.host_answers.proofs.laws.bodies_are_withheld_from_heads_alone.Goals as goal

pub returns : goal.returns
returns g c = λ old new parts body answer by withheld. withheld_to_head g.H.House.calls g.H.Holder.gave g.H.Holder.failed old parts body answer new by withheld
