-- The reasons against a command or an undo, on a host.
use Rattle.std.specs.Prelude.{ℕ, Option}
use Rattle.host_names.specs.declared.names.SiteName.{SiteName}
use Rattle.site_change.specs.declared.refusals.ChangeRefusal.{ChangeRefusal}
use Rattle.site_change.specs.declared.commands.Command.{Command}
use Rattle.change_undo.specs.Histories as histories
use Rattle.host_server.specs.Hosts.{Host, state_of}

-- the first reason why the host does not take the command as its next entry
abbrev pub commit_refusal : Host → Command → Option ChangeRefusal
commit_refusal host command = histories.commit_refusal host.uploads host.limit host.entries (state_of host) command

-- the first reason why it does not take the undo of the change
abbrev pub undo_refusal : Host → SiteName → ℕ → Option ChangeRefusal
undo_refusal host site k = histories.undo_refusal host.uploads host.limit host.entries site k
