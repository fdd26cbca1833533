use Rattle.std.proofs.Common.{◌≡◌, ◌+◌, ◌-◌, ◌*◌, ◌<◌, ◌≤◌, IsTrue, [], length}
use Rattle.record_file.specs.Walks.{HasCounted, HasWalked, IsOnlyRead, IsOpened}
use Rattle.record_file.proofs.walks.walk_records.Given as goal

abbrev pub invariant-loop-body : goal.invariant-loop-body
invariant-loop-body g l = record {
  within : l.position.gate < l.size;
  far : length l.fn.header < l.position.gate;
  near : l.position.gate ≤ length l.fn.header + 1 + 10470075 * l.position.count;
  same : IsTrue g.D.Disk.is_modelled → IsOnlyRead g.D.Disk.seen g.D.Disk.may_leave g.D.Disk.moment g.D.Disk.left_since l.fn.disk l.disk;
  counted : g.D.Disk.faults l.disk ≡ g.D.Disk.faults l.fn.disk;
  taken : g.B.Bodies.has l.fn.bodies [] → HasCounted (g.B.Bodies.has l.bodies) l.position.count;
  walked : IsTrue g.D.Disk.is_modelled → IsOpened l.fn.header (g.D.Disk.seen l.fn.disk) → g.B.Bodies.has l.fn.bodies [] → HasWalked l.fn.header (g.B.Bodies.has l.bodies) (g.B.Bodies.is_lawful l.fn.header) l.position.gate l.position.count (g.D.Disk.seen l.fn.disk);
}

abbrev pub decreases-loop-body : goal.decreases-loop-body
decreases-loop-body g l = l.size - l.position.gate
