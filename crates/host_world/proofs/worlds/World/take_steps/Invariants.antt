use Rattle.std.proofs.Common.{take}
use Rattle.host_world.specs.Steps.{Runs}
use Rattle.host_world.proofs.worlds.World.take_steps.Given as goal

abbrev pub invariant-loop-step : goal.invariant-loop-step
invariant-loop-step l = Runs l.fn.self (take l.step-index l.steps) l.self
