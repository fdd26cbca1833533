use Rattle.std.proofs.Common.{length}
use Rattle.host_api.proofs.targets.+fit.Given as goal

abbrev pub decreases-fit : goal.decreases-fit
decreases-fit l = length l.parts.now
