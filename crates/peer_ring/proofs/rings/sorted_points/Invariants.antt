use Rattle.std.proofs.Common.{◌≡◌, ◌++◌, ◌*◌, length, map, drop}
use Rattle.peer_ring.specs.Points.{points_of}
use Rattle.peer_ring.proofs.rings.sorted_points.Given as goal

-- the points so far, and those of the peers that are left
abbrev pub invariant-loop-peer : goal.invariant-loop-peer
invariant-loop-peer g l = record {
  count : length l.points.items ≡ 50 * l.peer;
  points : l.points.items ++ points_of (g.H.RingHash.hashed l.hash) (map (λ name. name.now) (drop l.peer l.names)) l.peer
      ≡ points_of (g.H.RingHash.hashed l.hash) (map (λ name. name.now) l.names) 0;
}
