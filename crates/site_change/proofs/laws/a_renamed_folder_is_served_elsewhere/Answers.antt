use Rattle.site_change.proofs.FolderMoves.{accepted_free, leaves_folder}
use Rattle.site_change.proofs.laws.a_renamed_folder_is_served_elsewhere.Goals as goal

pub returns : goal.returns
returns c site source target number state uploads accepted = leaves_folder site source target state (accepted_free site source target state accepted)
