use Rattle.site_change.proofs.Growing.{keeps_running}
use Rattle.site_change.proofs.laws.accepted_stays_accepted.Goals as goal

pub returns : goal.returns
returns c = keeps_running
