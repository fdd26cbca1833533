use Rattle.host_world.proofs.Changing.{after_one_more}
use Rattle.host_world.proofs.worlds.World.take_steps.Goals as goal

pub loop-step-preserved : goal.loop-step-preserved
loop-step-preserved c =
    after_one_more c.args.steps.now c.loop-step.step-index c.step-item.result c.args.self.now c.loop-step.self c.step.new.self c.loop-step-test.true c.step-item.is c.loop-step.invariant
    c.in_ok-step.ensures.ok
