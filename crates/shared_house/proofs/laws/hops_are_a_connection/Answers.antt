use Rattle.host_connection.proofs.Carried.{new_connection}
use Rattle.host_connection.proofs.Standing.{comes_last}
use Rattle.host_connection.proofs.Walking.{walk}
use Rattle.shared_house.specs.Desks.{shows}
use Rattle.shared_house.specs.Guests.{IsGuestAnswer}
use Rattle.shared_house.specs.Seeing.{HasSeen, Known, Visit, by_visit}
use Rattle.shared_house.specs.Shared.{IsSharedAnswer}
use Rattle.shared_house.proofs.AllSeen.{notes_stand}
use Rattle.shared_house.proofs.laws.hops_are_a_connection.Goals as goal

pub returns : goal.returns
returns g c = λ start first seen connection steps fresh later are.
    let d = g.X.Duplex in
    let did = shows g.D.DeskAccess.did g.G.FileAccess.fails in
    comes_last (IsGuestAnswer did) (IsSharedAnswer did by_visit) (λ (note : Known) (visit : Visit). HasSeen visit note) (notes_stand did) d.saw (Unit {0}) d.waits start start first
    first seen connection steps later
    (walk (IsGuestAnswer did) d.saw (Unit {0}) d.waits start start first first connection steps
    (new_connection (IsGuestAnswer did) d.saw (Unit {0}) start first connection fresh) are)
