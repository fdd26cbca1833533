use Rattle.std.proofs.Common.{subst}
use Rattle.change_log.specs.Logs.{BeginsWith}
use Rattle.shared_house.specs.Desks.{shows}
use Rattle.shared_house.specs.Seeing.{Known}
use Rattle.shared_house.proofs.Running as running
use Rattle.shared_house.proofs.laws.the_headline_of_running_nodes.Goals as goal

pub returns-clause-undone : goal.returns-clause-undone
returns-clause-undone g c = running.undo_reply (shows g.D.DeskAccess.did g.G.FileAccess.fails)

pub returns-clause-read : goal.returns-clause-read
returns-clause-read g c = running.read_reply (shows g.D.DeskAccess.did g.G.FileAccess.fails)

pub returns-clause-later : goal.returns-clause-later
returns-clause-later g c = running.later (shows g.D.DeskAccess.did g.G.FileAccess.fails)

pub returns-clause-found : goal.returns-clause-found
returns-clause-found g c =
    subst (λ (known : Known). BeginsWith known.log g.J.ListName.found) c.one.view_is c.each_front_is_later_than_what_was_found.ensures
