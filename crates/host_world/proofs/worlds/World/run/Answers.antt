use Rattle.host_world.proofs.Changing.{reached_by}
use Rattle.host_world.proofs.worlds.World.run.Goals as goal

pub returns-clause-lawful : goal.returns-clause-lawful
returns-clause-lawful c = λ reached. c.worlds_stay_lawful.ensures.lawful c.take_steps.new.self
    (reached_by c.take_steps.result c.args.self.now c.take_steps.new.self c.args.steps.now c.take_steps.ensures.ok c.take_steps.ensures.err reached)

pub returns-clause-right : goal.returns-clause-right
returns-clause-right c = λ reached. c.worlds_stay_lawful.ensures.right c.take_steps.new.self
    (reached_by c.take_steps.result c.args.self.now c.take_steps.new.self c.args.steps.now c.take_steps.ensures.ok c.take_steps.ensures.err reached)

pub returns-clause-flights : goal.returns-clause-flights
returns-clause-flights c = λ reached. c.worlds_stay_lawful.ensures.flights c.take_steps.new.self
    (reached_by c.take_steps.result c.args.self.now c.take_steps.new.self c.args.steps.now c.take_steps.ensures.ok c.take_steps.ensures.err reached)

pub returns-clause-reached : goal.returns-clause-reached
returns-clause-reached c = λ reached. reached_by c.take_steps.result c.args.self.now c.take_steps.new.self c.args.steps.now c.take_steps.ensures.ok c.take_steps.ensures.err reached
