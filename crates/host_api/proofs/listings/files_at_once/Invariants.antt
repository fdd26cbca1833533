use Rattle.serde_json.specs.View.{members_view}
use Rattle.host_api.proofs.SortedFiles.{SoFar}
use Rattle.host_api.proofs.listings.files_at_once.Given as goal

abbrev pub invariant-members : goal.invariant-members
invariant-members l = SoFar l.is_patch (members_view l.members.entries) (members_view l.key-iterator) l.files.items
