use Rattle.peer_ring.proofs.Owned.{owner_moves}
use Rattle.peer_ring.proofs.laws.owners_ignore_the_order_of_points.Goals as goal

pub returns : goal.returns
returns c = owner_moves
