use Rattle.std.proofs.Common.{◌∙◌}
use Rattle.record_file.specs.Slots.{IsClosed}
use Rattle.record_file.proofs.Steps.{weaker, both_on_ok}
use Rattle.record_file.proofs.SlotSteps.{filling, filled}
use Rattle.record_file.proofs.filling.fill.Goals as goal

pub returns-clause-filled : goal.returns-clause-filled
returns-clause-filled g c modelled is =
    both_on_ok c.write_synced.result _ _ _ (λ written durable.
    let new = filled (g.D.Disk.seen c.args.disk.now) _ c.args.behind.now is written in
    record { is = new; only = λ f left. durable f left ∙ new }) (c.write_synced.ensures.written modelled) (c.write_synced.ensures.durable modelled)

pub returns-clause-any_moment : goal.returns-clause-any_moment
returns-clause-any_moment g c modelled all =
    weaker g.D.Disk.moment g.D.Disk.left_since c.args.disk.now c.write_synced.new.disk _ IsClosed (filling _ (g.D.Disk.may_leave c.args.disk.now) all) (c.write_synced.ensures.any_moment modelled)
