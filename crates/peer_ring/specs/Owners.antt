-- Which peer owns a key.
use Rattle.std.specs.Prelude.{◌≡◌, ℕ, ◌<◌, ◌≤◌, List, ◌⊎◌, Contains}
use Rattle.peer_ring.specs.declared.points.Point.{Point}

-- a point comes before another, or is it: its hash is less, or at one hash its peer is later
abbrev pub ComesFirst : Point → Point → Type 0
ComesFirst p q = (p.hash < q.hash) ⊎ ((p.hash ≡ q.hash) × (q.peer.0 ≤ p.peer.0))

-- the first of the points whose hash isn't below this one
pub record IsNext (points : List Point) (hash : ℕ) (p : Point) : Type 0 where
  pub is_point : Contains points p
  pub not_below : hash ≤ p.hash
  pub first : (q : Point) → Contains points q → hash ≤ q.hash → ComesFirst p q

-- the peer of the next point; where each point is below the hash, that of the first of all
abbrev pub IsOwner : List Point → ℕ → ℕ → Type 0
IsOwner points hash peer =
    (p : Point) × (p.peer.0 ≡ peer)
    × (IsNext points hash p ⊎ (((q : Point) → Contains points q → q.hash < hash) × IsNext points 0 p))
