-- Which peer is at a place.
use Rattle.std.specs.Prelude.{◌≡◌, ℕ, List, Some, slice_get}
use Rattle.std.specs.declared.net.SocketAddr.{SocketAddr}
use Rattle.peer_link.specs.declared.peers.Peer.{Peer}
use Rattle.peer_link.specs.declared.peer_streams.PeerStream.{PeerStream}

-- the peer at a place of a list has this address
abbrev pub IsAddressAt : List Peer → ℕ → SocketAddr → Type 0
IsAddressAt peers place address = (peer : Peer) × (slice_get peers place ≡ Some peer) × (peer.address ≡ address)

-- somebody connected to the peer at a place
abbrev pub IsReached : List Peer → ℕ → Type 0
IsReached peers place = (made : PeerStream) × IsAddressAt peers place made.address
