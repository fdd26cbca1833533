use Rattle.std.proofs.Common.{◌-◌, ◌<◌, IsTrue}
use Rattle.record_file.specs.Walks.{IsOnlyRead}
use Rattle.record_file.proofs.remnants.skip_records.Given as goal

abbrev pub invariant-loop-gate : goal.invariant-loop-gate
invariant-loop-gate g l = record {
  within : l.position.gate < l.size;
  same : IsTrue g.D.Disk.is_modelled → IsOnlyRead g.D.Disk.seen g.D.Disk.may_leave g.D.Disk.moment g.D.Disk.left_since l.fn.disk l.disk;
}

abbrev pub decreases-loop-gate : goal.decreases-loop-gate
decreases-loop-gate g l = l.size - l.position.gate
