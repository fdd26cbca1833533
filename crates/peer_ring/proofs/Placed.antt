-- The points of a ring.
use Rattle.std.proofs.Common.{◌≡◌, ℕ, zero, suc, ◌+◌, ◌<◌, ◌∷◌, [], List, length, refl, inl, inr, arith, All}
use Rattle.std.proofs.lemmas.List.{length-append}
use Rattle.std.proofs.lemmas.List.Elements.{All-append, All-contains, All-nil, All-push, All-weaker}
use Rattle.std.proofs.lemmas.List.Sorted.{IsPermutation-sym, length_permutation}
use Rattle.peer_ring.specs.declared.points.Point.{Point}
use Rattle.peer_ring.specs.Owners.{IsOwner}
use Rattle.peer_ring.specs.Points.{point_of, points_of_peer, points_of}
use Rattle.peer_ring.specs.Rings.{HasPoints}
use Rattle.peer_ring.proofs.Owned.{owner_moves}

-- a peer's points are as many as were made, and its own
own_points : (hashed : List ℕ → ℕ) (name : List ℕ) (peer n : ℕ) → (length (points_of_peer hashed name peer n) ≡ n) × All (λ p. p.peer.0 ≡ peer) (points_of_peer hashed name peer n)
unfolding points_of_peer
own_points hashed name peer zero = (refl, All-nil _)
own_points hashed name peer (suc n) =
    let before = own_points hashed name peer n in (
      omega (arith, length-append (points_of_peer hashed name peer n) (point_of hashed name peer n ∷ []), before.0),
      All-push (λ p. p.peer.0 ≡ peer) (points_of_peer hashed name peer n) (point_of hashed name peer n) before.1 refl,
    )

-- there are points where there are peers
some_points : (hashed : List ℕ → ℕ) (names : List (List ℕ)) (peer : ℕ) → 0 < length names → 0 < length (points_of hashed names peer)
some_points hashed [] peer some = absurd (omega (arith, some))
some_points hashed (name ∷ names) peer some =
    let own = (own_points hashed name peer 50).0 in
    omega (arith, length-append (points_of_peer hashed name peer 50) (points_of hashed names (peer + 1)), own)

-- each point is that of one of the peers
peers_points : (hashed : List ℕ → ℕ) (names : List (List ℕ)) (peer : ℕ) → All (λ p. p.peer.0 < peer + length names) (points_of hashed names peer)
peers_points hashed [] peer = All-nil _
peers_points hashed (name ∷ names) peer =
    All-append (λ p. p.peer.0 < peer + length (name ∷ names)) (points_of_peer hashed name peer 50) (points_of hashed names (peer + 1))
    (All-weaker (λ p. p.peer.0 ≡ peer) (λ p. p.peer.0 < peer + length (name ∷ names)) (λ p is. omega (arith, is)) _ (own_points hashed name peer 50).1)
    (All-weaker (λ p. p.peer.0 < (peer + 1) + length names) (λ p. p.peer.0 < peer + length (name ∷ names)) (λ p below. omega (arith, below)) _ (peers_points hashed names (peer + 1)))

pub owner_is_peer : (hashed : List ℕ → ℕ) (names : List (List ℕ)) (hash peer : ℕ) → IsOwner (points_of hashed names 0) hash peer → peer < length names
owner_is_peer hashed names hash peer (p, is, inl next) =
    let below = All-contains (λ q. q.peer.0 < 0 + length names) (points_of hashed names 0) p (peers_points hashed names 0) next.is_point in omega (arith, is, below)
owner_is_peer hashed names hash peer (p, is, inr none) =
    let below = All-contains (λ q. q.peer.0 < 0 + length names) (points_of hashed names 0) p (peers_points hashed names 0) none.1.is_point in omega (arith, is, below)

pub has_some : (hashed : List ℕ → ℕ) (names : List (List ℕ)) (points : List Point) → HasPoints hashed names points → 0 < length points
has_some hashed names points has =
    let some = some_points hashed names 0 has.some in
    let long = length_permutation (points_of hashed names 0) points has.placed in
    omega (arith, some, long)

-- the owner by the points of a ring is one of its peers, and owns the key by the points of these
pub owner_of_ring : (hashed : List ℕ → ℕ) (names : List (List ℕ)) (points : List Point) → HasPoints hashed names points → (hash peer : ℕ) → IsOwner points hash peer
    → IsOwner (points_of hashed names 0) hash peer × (peer < length names)
owner_of_ring hashed names points has hash peer owner =
    let owns = owner_moves points (points_of hashed names 0) hash peer (IsPermutation-sym (points_of hashed names 0) points has.placed) owner in
    (owns, owner_is_peer hashed names hash peer owns)
