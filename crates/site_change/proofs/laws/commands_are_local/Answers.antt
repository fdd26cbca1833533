use Rattle.site_change.proofs.Locality.{is_local}
use Rattle.site_change.proofs.laws.commands_are_local.Goals as goal

pub returns : goal.returns
returns c = is_local
