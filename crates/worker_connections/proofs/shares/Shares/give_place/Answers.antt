use Rattle.std.proofs.Common.{◌≡◌, ◌∙◌, ap, arith}
use Rattle.worker_connections.proofs.SharedPlaces.{taken_more}
use Rattle.worker_connections.specs.Shares.{taken}
use Rattle.worker_connections.proofs.shares.Shares.give_place.Goals as goal

pub invariant_of-self : goal.invariant_of-self
invariant_of-self c =
    let is : c.taken.result ≡ taken c.self.inside.workers.items = c.taken.ensures ∙ ap taken c.deref.ensures.value in
    rw c.give_one.ensures (record {
      within = omega (arith, is, c.if-taken-self.false, taken_more c.self.inside.workers.items c.in_ok-at.at);
      fits = c.self.invariant.fits;
    })
