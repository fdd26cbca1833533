use Rattle.site_change.proofs.PathLists.{by_path_nil}
use Rattle.core_tests.proofs.tests.bases.no_files.Goals as goal

pub returns : goal.returns
returns c = by_path_nil _ c.new.ensures.items
