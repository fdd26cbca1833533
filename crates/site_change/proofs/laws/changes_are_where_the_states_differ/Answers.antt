use Rattle.site_change.proofs.Touching.{changed}
use Rattle.site_change.proofs.laws.changes_are_where_the_states_differ.Goals as goal

pub returns : goal.returns
returns c = changed
