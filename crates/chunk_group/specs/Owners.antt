-- Which peer owns a key.
use Rattle.std.specs.Prelude.{◌≢◌, ℕ, List}
use Rattle.hex.specs.Hex.{encode_lower}
use Rattle.host_names.specs.declared.digests.Digest.{Digest}
use Rattle.peer_ring.specs.Owners.{IsOwner}
use Rattle.peer_ring.specs.Points.{points_of}
use Rattle.peer_ring.specs.Rings.{Peers}

-- the peer at this place in a ring owns a key, by the 40 lower-case hexadecimal digits of the key
abbrev pub Owns : {H : Type 0} → (hashed : H → List ℕ → ℕ) → Peers H → Digest → ℕ → Type 0
Owns hashed ring key peer = IsOwner (points_of (hashed ring.hash) ring.names 0) (hashed ring.hash (encode_lower key.0)) peer

-- a peer owns, and isn't this node
abbrev pub IsOther : (owns : ℕ → Type 0) → ℕ → ℕ → Type 0
IsOther owns me peer = owns peer × (peer ≢ me)
