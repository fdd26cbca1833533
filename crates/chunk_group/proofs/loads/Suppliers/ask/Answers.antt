use Rattle.std.proofs.Common.{rules}
use Rattle.chunk_group.specs.Loads.{IsLeft}
use Rattle.chunk_group.specs.Owners.{Owns}
use Rattle.chunk_group.proofs.loads.Suppliers.ask.Goals as goal
use Rattle.chunk_group.proofs.loads.Suppliers.ask.Goals.{in-Some+in_default-from_peer, in_default}

pub returns-clause-given : goal.returns-clause-given
returns-clause-given g c =
    let left : IsLeft g.L.PeerLink.fetched (Owns g.H.RingHash.hashed c.args.place.now.ring c.args.key.now) c.args.place.now.me c.args.self.now.link c.args.key.now c.match-other_owner.self.link =
    elim c.match-other_owner.branch [
      | in-Some+in_default-from_peer w ↦ search (rules, w.self-is)
      | in_default w ↦ search (rules, w.self-is)
    ] in
    (left, (search rules, search rules))
