use Rattle.std.proofs.Common.{arith, refl}
use Rattle.worker_connections.proofs.SharedPlaces.{taken_same}
use Rattle.worker_connections.specs.Shares.{says}
use Rattle.worker_connections.proofs.shares.Shares.say.Goals as goal

pub invariant_of-self : goal.invariant_of-self
invariant_of-self c = rw c.say.ensures (record { within = omega (arith, c.self.invariant.within, taken_same c.self.inside.workers.items c.args.at (says c.args.place c.args.body c.args.reply) (λ share. refl)); fits = c.self.invariant.fits })
