use Rattle.host_world.proofs.Reached.{reached_flights, reached_lawful, reached_right}
use Rattle.host_world.proofs.laws.worlds_stay_lawful.Goals as goal

pub returns : goal.returns
returns c =
    let on = c.histories_outlast_uploads.ensures in
    let front = c.a_beginning_of_a_legal_log_is_legal.ensures in
    record {
      lawful = reached_lawful on.legal on.run front;
      right = reached_right on.legal on.run front;
      flights = reached_flights on.legal on.run front;
    }
