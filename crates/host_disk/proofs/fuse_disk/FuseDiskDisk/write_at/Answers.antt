use Rattle.host_disk.proofs.Counted.{ok_counted}
use Rattle.host_disk.proofs.fuse_disk.FuseDiskDisk.write_at.Goals as goal

pub returns-clause-torn : goal.returns-clause-torn
returns-clause-torn g c modelled =
    ok_counted c.write_at-outcome.result c.counted-2.result _ c.counted-2.ensures.same (rw c.count_off.ensures.disk at (c.write_at-outcome.ensures.torn modelled))
