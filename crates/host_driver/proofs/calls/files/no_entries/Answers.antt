use Rattle.site_change.proofs.PathLists.{by_path_nil}
use Rattle.host_driver.proofs.calls.files.no_entries.Goals as goal

pub returns : goal.returns
returns c = by_path_nil _ c.new.ensures.items
