-- What a ring is.
use Rattle.std.specs.Prelude.{ℕ, ◌<◌, ◌≤◌, List, length, refl}
use Rattle.std.specs.Coded.{Coded, code_by, coded×, coded_list, coded_ℕ}
use Rattle.std.specs.List.Sorted.{IsPermutation, IsSorted}
use Rattle.peer_ring.specs.declared.points.Point.{Point}
use Rattle.peer_ring.specs.Points.{point_cmp, points_of}

-- a hash, and peers by their names; each peer is known by its place among them
pub record Peers (H : Type 0) : Type 0 where
  pub hash : H
  pub names : List (List ℕ)

abbrev pub coded_peers : {H : Type 0} → Coded H → Coded (Peers H)
coded_peers {H} hash =
    code_by (H × List (List ℕ)) (coded× hash (coded_list (coded_list coded_ℕ))) (λ p. (p.hash, p.names)) (λ t. record { hash = t.0; names = t.1 }) (λ _. refl)

-- one to eight peers of these names have these points, which are in order
pub record HasPoints (hashed : List ℕ → ℕ) (names : List (List ℕ)) (points : List Point) : Type 0 where
  pub some : 0 < length names
  pub few : length names ≤ 8
  pub placed : IsPermutation (points_of hashed names 0) points
  pub sorted : IsSorted point_cmp points
