use Rattle.record_file.specs.Openings.{HasShut}
use Rattle.record_file.proofs.Steps.{weaker}
use Rattle.record_file.proofs.MendSteps.{gate_kept}
use Rattle.record_file.proofs.mending.cut_behind.Goals as goal

pub returns-then-at-size-clause-any_moment : goal.returns-then-at-size-clause-any_moment
returns-then-at-size-clause-any_moment g c modelled front rest at is only =
    weaker g.D.Disk.moment g.D.Disk.left_since c.args.disk.now c.cut_synced.new.disk _ (HasShut front) (λ f left.
    let kept = gate_kept front rest (g.D.Disk.seen c.args.disk.now) (g.D.Disk.may_leave c.args.disk.now) c.args.at at 0 is only f left in
    record { rest = kept.0; is = kept.1 }) (c.cut_synced.ensures.any_moment modelled)
