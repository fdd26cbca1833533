-- The points of peers on a ring.
use Rattle.std.specs.Prelude.{ℕ, zero, suc, ◌+◌, List, [], ◌∷◌, ◌++◌, decimal}
use Rattle.std.specs.declared.cmp.Ordering.{Ordering}
use Rattle.std.specs.Ordering.{nat_cmp, ordering_then}
use Rattle.peer_ring.specs.declared.points.Point.{Point}

-- a peer's point of a number, which is at the hash of the number's decimal text followed by the peer's name
abbrev pub point_of : (List ℕ → ℕ) → List ℕ → ℕ → ℕ → Point
point_of hashed name peer number = record { hash = hashed (decimal number ++ name); peer = record { 0 = peer } }

-- a peer's points of the numbers below n
unfoldable pub points_of_peer : (List ℕ → ℕ) → List ℕ → ℕ → ℕ → List Point
points_of_peer hashed name peer zero = []
points_of_peer hashed name peer (suc n) = points_of_peer hashed name peer n ++ point_of hashed name peer n ∷ []

-- the 50 points of each peer of these names, where the first of them has this place among all
abbrev pub points_of : (List ℕ → ℕ) → List (List ℕ) → ℕ → List Point
points_of hashed [] peer = []
points_of hashed (name ∷ names) peer = points_of_peer hashed name peer 50 ++ points_of hashed names (peer + 1)

-- by hash, and at one hash the later peer first
abbrev pub point_cmp : Point → Point → Ordering
point_cmp p q = ordering_then (nat_cmp p.hash q.hash) (nat_cmp q.peer.0 p.peer.0)
