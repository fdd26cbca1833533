use Rattle.std.proofs.lemmas.Bool.{false≢true}
use Rattle.serde_json.specs.View.{members_view}
use Rattle.host_api.proofs.LawfulListings.{members_lawful}
use Rattle.host_api.proofs.listings.listed.Goals as goal

pub unreachable-requires : goal.unreachable-requires
unreachable-requires c =
    false≢true (c.in-Err.ensures.lawful.1 (members_lawful c.args.is_patch (members_view c.args.members.now.entries) c.in_ok-files.files.items c.in-Ok.paths c.in_ok-files.ensures.sorted c.in-Ok.ensures
    c.in_ok-files.ensures.ok))
