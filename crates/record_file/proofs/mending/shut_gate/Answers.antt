use Rattle.record_file.specs.Openings.{HasSomeGate}
use Rattle.record_file.proofs.Steps.{weaker}
use Rattle.record_file.proofs.MendSteps.{some_gate}
use Rattle.record_file.proofs.mending.shut_gate.Goals as goal

pub returns-then-gate-ne0-clause-any_moment : goal.returns-then-gate-ne0-clause-any_moment
returns-then-gate-ne0-clause-any_moment g c modelled front rest at is only =
    weaker g.D.Disk.moment g.D.Disk.left_since c.args.disk.now c.write_synced.new.disk _ (HasSomeGate front c.args.gate rest) (some_gate front rest (g.D.Disk.seen c.args.disk.now) (g.D.Disk.may_leave c.args.disk.now) c.args.at at c.args.gate is only c.if-gate-ne0.true) (c.write_synced.ensures.any_moment modelled)
