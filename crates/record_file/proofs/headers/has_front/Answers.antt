use Rattle.std.proofs.Common.{arith}
use Rattle.record_file.proofs.LookSteps.{front_other, front_short, front_there}
use Rattle.record_file.proofs.Steps.{if_ok}
use Rattle.record_file.proofs.headers.has_front.Goals as goal

pub returns-then-size-whole-clause-wrong : goal.returns-then-size-whole-clause-wrong
returns-then-size-whole-clause-wrong g c modelled size wrong front =
    front_short c.args.header.now (g.D.Disk.seen c.args.disk.now) (omega (arith, size, c.if-size-whole.true)) front

pub returns-clause-right : goal.returns-clause-right
returns-clause-right g c modelled size rest is =
    if_ok c.has_header.result _ _ (λ told right yes. front_there c.args.header.now (g.D.Disk.seen c.args.disk.now) rest is (right yes) (omega (arith, size, c.if-size-whole.false))) (c.has_header.ensures.right modelled)

pub returns-clause-wrong : goal.returns-clause-wrong
returns-clause-wrong g c modelled size =
    if_ok c.has_header.result _ _ (λ told wrong no front. front_other c.args.header.now (g.D.Disk.seen c.args.disk.now) (wrong no) front) (c.has_header.ensures.wrong modelled)
