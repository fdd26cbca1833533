use Rattle.std.proofs.lemmas.Result.{IfOk-weaker}
use Rattle.host_opening.proofs.Wanting.{wanted_is}
use Rattle.host_opening.proofs.wanted_files.wanted.Goals as goal

pub returns : goal.returns
returns c =
    IfOk-weaker c.listed.result _ _ (λ r is. wanted_is c.args.log.now c.in_ok-needs.needs.entries r.items c.listed.ensures.rising c.in_ok-needs.ensures is) c.listed.ensures.wanted
