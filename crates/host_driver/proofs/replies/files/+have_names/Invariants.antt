use Rattle.std.proofs.Common.{length}
use Rattle.host_driver.proofs.replies.files.+have_names.Given as goal

abbrev pub decreases-have_names : goal.decreases-have_names
decreases-have_names l = length l.chunks.now
