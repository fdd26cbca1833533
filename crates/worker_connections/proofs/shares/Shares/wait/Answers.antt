use Rattle.std.proofs.Common.{arith, refl}
use Rattle.worker_connections.proofs.SharedPlaces.{taken_same}
use Rattle.worker_connections.specs.Shares.{waiting}
use Rattle.worker_connections.proofs.shares.Shares.wait.Goals as goal

pub invariant_of-self : goal.invariant_of-self
invariant_of-self c = rw c.wait.ensures (record { within = omega (arith, c.self.invariant.within, taken_same c.self.inside.workers.items c.args.at (waiting c.args.waits) (λ share. refl)); fits = c.self.invariant.fits })
