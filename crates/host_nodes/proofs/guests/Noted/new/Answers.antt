use Rattle.std.proofs.Common.{List, [], subst, sym}
use Rattle.http_wire.specs.Timing.{Event}
use Rattle.host_connection.specs.Carrying.{Carries}
use Rattle.host_connection.proofs.Carried.{new_connection}
use Rattle.shared_house.specs.Desks.{shows}
use Rattle.shared_house.specs.Guests.{IsGuestAnswer}
use Rattle.tcp_socket.specs.Trails.{notes}
use Rattle.host_nodes.proofs.guests.Noted.new.Goals as goal

pub invariant_of-result : goal.invariant_of-result
invariant_of-result g c =
    let answers = IsGuestAnswer (shows g.M.Houses.did g.M.Houses.fails) in
    record {
      carried = ∣ (λ d rests. (
        c.args.note,
        subst (λ (t : List Event). Carries answers notes (Unit {0}) [] c.args.note t c.args.note d) (sym c.new.ensures)
            (new_connection answers notes (Unit {0}) [] c.args.note d rests),
      )) ∣₁;
    }
