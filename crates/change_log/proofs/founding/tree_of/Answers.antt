use Rattle.change_log.proofs.BaseNames.{all_by_path}
use Rattle.change_log.proofs.founding.tree_of.Goals as goal

pub from_sorted-requires : goal.from_sorted-requires
from_sorted-requires g c =
    all_by_path (g.U.Uploads.contents c.args.uploads.now) c.args.files.now c.entries-entries.result.now c.loop-path.tree.items c.loop-path.path-index
    c.entries-entries.ensures.pairs c.entries-entries.ensures.sorted c.loop-path-test.false c.loop-path.invariant
