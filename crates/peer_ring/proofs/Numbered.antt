-- Points, one more.
use Rattle.std.proofs.Common.{◌≡◌, ℕ, suc, ◌+◌, ◌<◌, ◌++◌, ◌∷◌, [], List, drop, length, map, ap, sym, ◌∙◌, arith, Bor, slice_index_or}
use Rattle.std.proofs.Math.Seq.{drop-cons}
use Rattle.peer_ring.specs.Points.{point_of, points_of_peer, points_of}

next_number : (n : ℕ) → n + 1 ≡ suc n
next_number n = omega arith

-- the last of a peer's points
pub points_more : (hashed : List ℕ → ℕ) (name : List ℕ) (peer n : ℕ) → points_of_peer hashed name peer (n + 1) ≡ points_of_peer hashed name peer n ++ point_of hashed name peer n ∷ []
unfolding points_of_peer
points_more hashed name peer n = ap (points_of_peer hashed name peer) (next_number n)

-- the points of the next peer
pub peer_more : (hashed : List ℕ → ℕ) (names : List (Bor (List ℕ))) (peer : ℕ) (d : Bor (List ℕ)) → peer < length names
    → points_of hashed (map (λ name. name.now) (drop peer names)) peer
    ≡ points_of_peer hashed (slice_index_or names peer d).now peer 50 ++ points_of hashed (map (λ name. name.now) (drop (peer + 1) names)) (peer + 1)
peer_more hashed names peer d lt =
    ap (λ rest. points_of hashed (map (λ name. name.now) rest) peer) (drop-cons names peer d lt)
    ∙ ap (λ n. points_of_peer hashed (slice_index_or names peer d).now peer 50 ++ points_of hashed (map (λ name. name.now) (drop n names)) (peer + 1)) (sym (next_number peer))
