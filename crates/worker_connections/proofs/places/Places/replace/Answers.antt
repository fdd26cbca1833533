use Rattle.std.proofs.Common.{◌≡◌, Some, subst, sym}
use Rattle.worker_connections.proofs.Sound.{sound_set}
use Rattle.worker_connections.specs.Places.{Held, place_at}
use Rattle.worker_connections.proofs.places.Places.replace.Goals as goal

pub invariant_of-self : goal.invariant_of-self
invariant_of-self c =
    let there = subst (λ (held : Held). place_at held.places c.args.at ≡ Some c.args.old.now) (sym c.self.view_is) c.requires.there in
    rw c.lost.ensures (sound_set c.self.inside.places.items c.self.inside.came c.self.inside.gone c.args.at c.args.old.now c.args.new c.self.invariant there c.requires.number c.requires.live)
