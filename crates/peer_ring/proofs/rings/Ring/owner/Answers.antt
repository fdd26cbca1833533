use Rattle.std.proofs.Common.{sym, subst, ◌<◌, length}
use Rattle.peer_ring.specs.Owners.{IsOwner}
use Rattle.peer_ring.specs.Points.{points_of}
use Rattle.peer_ring.proofs.Placed.{has_some, owner_of_ring}
use Rattle.peer_ring.proofs.rings.Ring.owner.Goals as goal

pub owner_among-requires-clause-some : goal.owner_among-requires-clause-some
owner_among-requires-clause-some g c = subst (λ points. 0 < length points) (sym c.deref.ensures.value) (has_some _ _ _ c.self.invariant)

pub returns-clause-owner : goal.returns-clause-owner
returns-clause-owner g c =
    let hashed = g.H.RingHash.hashed in
    let peer = c.owner_among.result in
    let kept = c.self.inside.points.items in
    let owner = subst (λ hash. IsOwner kept hash peer) c.hash.ensures (subst (λ points. IsOwner points c.hash.result peer) c.deref.ensures.value c.owner_among.ensures) in
    subst (λ ring. IsOwner (points_of (hashed ring.hash) ring.names 0) (hashed ring.hash c.args.key.now) peer) c.self.view_is
    (owner_of_ring _ _ kept c.self.invariant (hashed c.self.inside.hash c.args.key.now) peer owner).0

pub returns-clause-peer : goal.returns-clause-peer
returns-clause-peer g c =
    let hashed = g.H.RingHash.hashed in
    let peer = c.owner_among.result in
    let kept = c.self.inside.points.items in
    let owner = subst (λ points. IsOwner points c.hash.result peer) c.deref.ensures.value c.owner_among.ensures in
    subst (λ ring. peer < length ring.names) c.self.view_is (owner_of_ring _ _ kept c.self.invariant c.hash.result peer owner).1
