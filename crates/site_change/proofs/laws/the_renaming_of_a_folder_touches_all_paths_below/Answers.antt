use Rattle.site_change.proofs.Touching.{by_folder}
use Rattle.site_change.proofs.laws.the_renaming_of_a_folder_touches_all_paths_below.Goals as goal

pub returns : goal.returns
returns c site source target number state at = by_folder site source target at
