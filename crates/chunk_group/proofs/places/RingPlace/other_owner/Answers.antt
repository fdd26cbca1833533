use Rattle.std.proofs.Common.{rules, ◌≡◌, List, ℕ, subst}
use Rattle.hex.specs.Hex.{encode_lower}
use Rattle.peer_ring.specs.Owners.{IsOwner}
use Rattle.peer_ring.specs.Points.{points_of}
use Rattle.chunk_group.proofs.places.RingPlace.other_owner.Goals as goal

pub returns-then-owner-self : goal.returns-then-owner-self
returns-then-owner-self g c =
    let ring = c.args.self.now.ring in
    let hashed = g.H.RingHash.hashed ring.hash in
    let text : c.as_bytes.result.now ≡ encode_lower c.args.key.now.0 = search rules in
    let owns = subst (λ (t : List ℕ). IsOwner (points_of hashed ring.names 0) (hashed t) c.owner-owner.result) text c.owner-owner.ensures.owner in
    subst (λ (peer : ℕ). IsOwner (points_of hashed ring.names 0) (hashed (encode_lower c.args.key.now.0)) peer) c.if-owner-self.true owns

pub returns-else-owner-self : goal.returns-else-owner-self
returns-else-owner-self g c =
    let ring = c.args.self.now.ring in
    let hashed = g.H.RingHash.hashed ring.hash in
    let text : c.as_bytes.result.now ≡ encode_lower c.args.key.now.0 = search rules in (
      subst (λ (t : List ℕ). IsOwner (points_of hashed ring.names 0) (hashed t) c.owner-owner.result) text c.owner-owner.ensures.owner,
      c.if-owner-self.false,
    )
