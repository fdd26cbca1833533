use Rattle.std.proofs.Common.{arith}
use Rattle.worker_connections.proofs.SharedPlaces.{taken_back}
use Rattle.worker_connections.proofs.shares.Shares.give_back.Goals as goal

pub invariant_of-self : goal.invariant_of-self
invariant_of-self c = rw c.give_back.ensures (record { within = omega (arith, c.self.invariant.within, taken_back c.self.inside.workers.items c.args.at); fits = c.self.invariant.fits })
