use Rattle.host_opening.proofs.Needed.{files_more}
use Rattle.host_opening.proofs.needs.add_files.Goals as goal

pub loop-listed-preserved : goal.loop-listed-preserved
loop-listed-preserved c = λ q.
    files_more c.args.must c.args.files.now c.loop-listed.listed-index c.loop-listed-item.result q _ _ _ c.loop-listed-test.true c.loop-listed-item.is
    (c.in_ok-add_listed.ensures q) (c.loop-listed.invariant q)
