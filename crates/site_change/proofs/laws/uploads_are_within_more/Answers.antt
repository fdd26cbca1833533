use Rattle.site_change.proofs.MoreUploads.{IsWithin-itself, IsWithin-trans, kept-with_file}
use Rattle.site_change.proofs.laws.uploads_are_within_more.Goals as goal

pub returns-clause-itself : goal.returns-clause-itself
returns-clause-itself c = IsWithin-itself

pub returns-clause-file : goal.returns-clause-file
returns-clause-file c = kept-with_file

pub returns-clause-on : goal.returns-clause-on
returns-clause-on c = IsWithin-trans
