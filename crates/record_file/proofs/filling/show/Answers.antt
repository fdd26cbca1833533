use Rattle.std.proofs.Common.{◌∙◌}
use Rattle.record_file.specs.Slots.{HasGate}
use Rattle.record_file.proofs.Steps.{weaker, both_on_ok}
use Rattle.record_file.proofs.SlotSteps.{showing, shown}
use Rattle.record_file.proofs.filling.show.Goals as goal

pub returns-clause-shown : goal.returns-clause-shown
returns-clause-shown g c modelled behind is =
    both_on_ok c.write_synced.result _ _ _ (λ written durable.
    let new = shown behind (g.D.Disk.seen c.args.disk.now) _ is written in
    record { is = new; only = λ f left. durable f left ∙ new }) (c.write_synced.ensures.written modelled) (c.write_synced.ensures.durable modelled)

pub returns-clause-any_moment : goal.returns-clause-any_moment
returns-clause-any_moment g c modelled behind only =
    weaker g.D.Disk.moment g.D.Disk.left_since c.args.disk.now c.write_synced.new.disk _ (HasGate behind) (showing behind (g.D.Disk.may_leave c.args.disk.now) only) (c.write_synced.ensures.any_moment modelled)
