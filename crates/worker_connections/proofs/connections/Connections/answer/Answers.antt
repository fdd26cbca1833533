use Rattle.worker_connections.proofs.Kept.{kept_answered}
use Rattle.worker_connections.proofs.connections.Connections.answer.Goals as goal

pub invariant_of-self : goal.invariant_of-self
invariant_of-self g c = rw c.answer.ensures.held (kept_answered c.args.name c.args.has_room c.args.now c.self.inside.places c.self.inside.kept.items c.self.invariant)
