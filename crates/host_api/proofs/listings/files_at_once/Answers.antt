use Rattle.std.proofs.Common.{◌≡◌, rules}
use Rattle.serde_json.specs.Data.{no_members}
use Rattle.serde_json.specs.View.{members_view}
use Rattle.host_api.proofs.SortedFiles.{finished, all_listed}
use Rattle.host_api.proofs.listings.files_at_once.Goals as goal

pub returns-then-sort_by_path-clause-listed : goal.returns-then-sort_by_path-clause-listed
returns-then-sort_by_path-clause-listed c =
    let members = members_view c.args.members.now.entries in
    let left = members_view c.members.key-iterator in
    let none : left ≡ no_members = search rules in
    all_listed c.args.is_patch members c.members.files.items c.sort_by_path.new.files.items (finished c.args.is_patch members left c.members.files.items none c.members.invariant)
    c.sort_by_path.ensures.same (c.sort_by_path.ensures.sorted c.if-sort_by_path.true)
