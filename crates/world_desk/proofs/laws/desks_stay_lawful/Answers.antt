use Rattle.world_desk.proofs.Lawful.{runs_lawful, start_lawful, step_lawful}
use Rattle.world_desk.proofs.laws.desks_stay_lawful.Goals as goal

pub returns : goal.returns
returns c = record {
  start = start_lawful;
  step = step_lawful c.histories_outlast_uploads.ensures.legal;
  all = runs_lawful c.histories_outlast_uploads.ensures.legal;
}
