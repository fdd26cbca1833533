use Rattle.std.proofs.Common.{IsTrue}
use Rattle.record_file.specs.Walks.{IsOnlyRead}
use Rattle.record_file.proofs.remnants.is_of_one_byte.Given as goal

abbrev pub invariant-loop-at : goal.invariant-loop-at
invariant-loop-at g l = record {
  same : IsTrue g.D.Disk.is_modelled → IsOnlyRead g.D.Disk.seen g.D.Disk.may_leave g.D.Disk.moment g.D.Disk.left_since l.fn.disk l.disk;
}
