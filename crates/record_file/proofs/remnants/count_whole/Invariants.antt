use Rattle.std.proofs.Common.{◌-◌, ◌<◌, ◌≤◌, IsTrue}
use Rattle.record_file.specs.Walks.{IsOnlyRead}
use Rattle.record_file.proofs.remnants.count_whole.Given as goal

abbrev pub invariant-loop-body : goal.invariant-loop-body
invariant-loop-body g l = record {
  within : l.position.gate < l.size;
  counted : l.from.count ≤ l.position.count;
  same : IsTrue g.D.Disk.is_modelled → IsOnlyRead g.D.Disk.seen g.D.Disk.may_leave g.D.Disk.moment g.D.Disk.left_since l.fn.disk l.disk;
}

abbrev pub decreases-loop-body : goal.decreases-loop-body
decreases-loop-body g l = l.size - l.position.gate
