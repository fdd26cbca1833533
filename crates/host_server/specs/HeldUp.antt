-- Where a request is held up: the journal's device has failed.
use Rattle.std.specs.Prelude.{ℕ, Bool, true, false, ◌&&◌, Result, Ok, Err, is_some}
use Rattle.change_undo.specs.Histories.{entry_at}
use Rattle.host_api.specs.declared.bodies.Ask.{Ask}
use Rattle.host_api.specs.declared.bodies.Ask.TheVariants as ask
use Rattle.host_api.specs.declared.refusals.Refusal.{Refusal}
use Rattle.host_answers.specs.Deploys.{site_of_deploy}
use Rattle.host_disk.specs.declared.disks.Disk.{Ghosts}
use Rattle.host_server.specs.Hosts.{Host}
use Rattle.host_server.specs.Journals.{is_broken}
use Rattle.host_server.specs.declared.servers.Server.{Server}

-- whether an entry opened the deploy of a number
abbrev pub is_opened : Host → ℕ → Bool
is_opened host n = is_some (site_of_deploy (entry_at host.entries n))

-- whether an ask is for a change, an undo or an upload; of one on the deploy of a number, that an entry opened it
abbrev pub may_change : Host → Ask → Bool
may_change host (ask.Command command) = true
may_change host (ask.Undo site change) = true
may_change host (ask.RemoveDeploy deploy) = is_opened host deploy
may_change host (ask.Cancel deploy) = is_opened host deploy
may_change host (ask.Upload deploy path) = is_opened host deploy
may_change host other = false

-- whether what a request asks for is held up, since the journal's device has failed
abbrev pub holds_up : {S D : Type 0} {disk : Ghosts D} → Server S D disk → Result Ask Refusal → Bool
holds_up server (Ok asking) = is_broken server.journal && may_change server.house asking
holds_up server (Err why) = false
