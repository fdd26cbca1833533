use Rattle.http_wire.proofs.Searches.{none_searched}
use Rattle.http_wire.proofs.scans.Search.new.Goals as goal

pub returns : goal.returns
returns c = none_searched
