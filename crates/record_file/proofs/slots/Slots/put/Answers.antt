use Rattle.record_file.proofs.SlotSteps.{on_ok, stale_below}
use Rattle.record_file.proofs.PairSteps.{put_moves}
use Rattle.record_file.proofs.slots.Slots.put.Goals as goal

pub returns-clause-stored : goal.returns-clause-stored
returns-clause-stored g c modelled bodies body spelled paired =
    on_ok c.put.result _ _ (λ settled. record { settled = settled; stale = paired.stale }) (c.put.ensures.stored modelled _ bodies body spelled paired.settled)

pub returns-clause-any_moment : goal.returns-clause-any_moment
returns-clause-any_moment g c modelled bodies body spelled paired =
    let slots = c.args.self.now in
    put_moves g.D.Disk.moment g.D.Disk.left_since bodies body slots.turned slots.records.disk slots.other c.put.new.self.disk (c.put.ensures.any_moment modelled _ bodies body spelled paired.settled)
    (λ f left. stale_below 1 f (paired.stale f (g.met.D.Disk.only_now slots.other f modelled left)))

pub returns-clause-reason : goal.returns-clause-reason
returns-clause-reason g c modelled bodies body spelled paired is = c.put.ensures.reason modelled _ bodies body spelled paired.settled is
