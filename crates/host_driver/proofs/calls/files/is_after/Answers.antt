use Rattle.std.proofs.Common.{◌<◌, length, arith}
use Rattle.site_change.proofs.PathLists.{behind_nothing, behind_last, less_by_test}
use Rattle.host_driver.proofs.calls.files.is_after.Goals as goal

pub returns-then-count-eq0 : goal.returns-then-count-eq0
returns-then-count-eq0 c = λ _ sorted digest. behind_nothing c.args.entries.now c.args.path.now digest (omega arith) sorted

pub returns : goal.returns
returns c = λ tested sorted digest.
    let some : 0 < length c.args.entries.now = omega arith in
    behind_last c.args.entries.now c.args.path.now digest c.index-entries-count.result some
    (less_by_test _ c.args.path.now c.cmp.result c.is_lt.result c.cmp.ensures c.is_lt.ensures tested) sorted
