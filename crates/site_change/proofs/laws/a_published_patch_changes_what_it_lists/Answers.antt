use Rattle.site_change.proofs.Leaving.{leaves_patch}
use Rattle.site_change.proofs.laws.a_published_patch_changes_what_it_lists.Goals as goal

pub returns : goal.returns
returns c = leaves_patch
