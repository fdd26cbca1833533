use Rattle.host_disk.proofs.Counted.{ok_counted}
use Rattle.host_disk.proofs.fault_disk.FaultDiskDisk.cut.Goals as goal

pub returns-clause-torn : goal.returns-clause-torn
returns-clause-torn g c modelled =
    ok_counted c.cut-outcome.result c.counted-2.result _ c.counted-2.ensures.same (rw c.count_off.ensures.disk at (c.cut-outcome.ensures.torn modelled))
