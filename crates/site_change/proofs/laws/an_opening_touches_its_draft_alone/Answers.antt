use Rattle.site_change.proofs.Touching.{by_open}
use Rattle.site_change.proofs.laws.an_opening_touches_its_draft_alone.Goals as goal

pub returns : goal.returns
returns c = by_open
