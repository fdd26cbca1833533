use Rattle.std.proofs.Common.{◌≡◌}
use Rattle.std.specs.FinMap as map
use Rattle.serde_json.specs.View.{members_view}
use Rattle.host_api.specs.Bodies as spec
use Rattle.host_api.proofs.listings.files_in_turn.Given as goal

abbrev pub invariant-loop-key : goal.invariant-loop-key
invariant-loop-key l = spec.with_all l.is_patch map.empty (members_view l.members.entries) ≡ spec.with_all l.is_patch (spec.files_in l.files.entries) (members_view l.key-iterator)
