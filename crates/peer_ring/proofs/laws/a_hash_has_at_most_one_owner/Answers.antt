use Rattle.peer_ring.proofs.Owned.{one_owner}
use Rattle.peer_ring.proofs.laws.a_hash_has_at_most_one_owner.Goals as goal

pub returns : goal.returns
returns c = one_owner
