use Rattle.std.proofs.Common.{arith, refl}
use Rattle.worker_connections.proofs.Kept.{kept_come}
use Rattle.worker_connections.proofs.connections.Connections.come.Goals as goal

pub invariant_of-self-2 : goal.invariant_of-self-2
invariant_of-self-2 g c =
    rw c.in_ok-name.ensures.ok (kept_come c.self.inside.places.places c.in_ok-name.name.place _ c.args.kept c.self.inside.kept.items
    c.make_room.new.kept.items c.keep.new.kept.items c.self.invariant c.in_ok-name.ensures.place.within refl
    (omega (arith, c.in_ok-make_room.ensures.ok, c.len.ensures)) c.make_room.ensures.same c.keep.ensures.at c.keep.ensures.len)
