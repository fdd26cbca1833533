use Rattle.std.proofs.Common.{rules, ◌≡◌}
use Rattle.std.specs.BTreeMap.{get}
use Rattle.host_names.specs.Digests.{digest_cmp}
use Rattle.host_opening.proofs.Needed.{listed_more}
use Rattle.host_opening.proofs.needs.add_listed.Goals as goal

pub returns-in_ok-insert-in-Some : goal.returns-in_ok-insert-in-Some
returns-in_ok-insert-in-Some c = λ q.
    let before : c.copied.result ≡ get digest_cmp c.args.needs.now c.in-Some.digest = search rules in
    listed_more c.in-Some.digest q c.args.must c.must_be_there-must.result c.copied.result c.args.listed.now (get digest_cmp c.args.needs.now) _ c.in-Some.is
    before c.must_be_there-must.ensures (c.in_ok-insert-in-Some.ensures.updates.0 q)
