use Rattle.std.proofs.Common.{sym, ap, ◌∙◌}
use Rattle.site_state.specs.Missing.{if_lacking}
use Rattle.site_change.proofs.Listings.{there}
use Rattle.site_change.proofs.trees.file_at.Goals as goal

pub file_of-requires : goal.file_of-requires
file_of-requires g c = let contents = g.U.Uploads.contents c.args.uploads.now in there contents c.in-Some.digest (ap (if_lacking contents) (sym c.in-Some.is) ∙ c.requires)
