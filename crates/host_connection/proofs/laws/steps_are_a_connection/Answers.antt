use Rattle.std.proofs.Common.{◌≡◌, refl}
use Rattle.host_connection.proofs.Carried.{new_connection}
use Rattle.host_connection.proofs.Standing.{comes_last, stands_for_itself}
use Rattle.host_connection.proofs.Walking.{walk}
use Rattle.host_connection.proofs.laws.steps_are_a_connection.Goals as goal

pub returns : goal.returns
returns g c =
    let answers = g.S.Service.answers in
    let d = g.D.Duplex in
    record {
      leads = λ start now first host connection steps so are. walk answers d.saw (Unit {0}) d.waits start now first host connection steps so are;
      comes = λ start first connection steps fresh are.
          comes_last answers answers (λ one another. one ≡ another) (stands_for_itself answers) d.saw (Unit {0}) d.waits start start first first first connection steps refl
          (walk answers d.saw (Unit {0}) d.waits start start first first connection steps (new_connection answers d.saw (Unit {0}) start first connection fresh) are);
    }
