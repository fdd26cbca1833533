use Rattle.std.proofs.Common.{◌≡◌, ◌+◌, ◌++◌, length}
use Rattle.peer_ring.specs.Points.{points_of_peer}
use Rattle.peer_ring.proofs.points.push_points.Given as goal

-- the points of the numbers so far are added
abbrev pub invariant-loop-number : goal.invariant-loop-number
invariant-loop-number g l = record {
  count : length l.points.items ≡ length l.fn.points.items + l.number;
  points : l.points.items ≡ l.fn.points.items ++ points_of_peer (g.H.RingHash.hashed l.hash) l.name l.peer l.number;
}
