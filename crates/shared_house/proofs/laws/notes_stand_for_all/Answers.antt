use Rattle.shared_house.specs.Desks.{shows}
use Rattle.shared_house.proofs.AllSeen.{notes_stand}
use Rattle.shared_house.proofs.laws.notes_stand_for_all.Goals as goal

pub returns : goal.returns
returns g c = notes_stand (shows g.D.DeskAccess.did g.G.FileAccess.fails)
