-- Which deploys are published by themselves.
use Rattle.std.specs.Prelude.{ℕ, Bool, false, ◌&&◌, Option, Some, None, is_none}
use Rattle.host_names.specs.declared.names.SiteName.{SiteName}
use Rattle.site_change.specs.declared.commands.Command.{Command}
use Rattle.site_change.specs.declared.commands.Command.TheVariants.{Open, Publish}
use Rattle.site_change.specs.declared.entries.Entry.{Entry}
use Rattle.site_change.specs.declared.entries.Entry.TheVariants.{Change}
use Rattle.host_server.specs.Hosts.{Host, next_number, with_entry}
use Rattle.host_server.specs.Outcomes.{is_ready}
use Rattle.host_server.specs.Reasons.{commit_refusal}

-- whether a deploy would be published now: it is ready, and its publishing would not be refused
abbrev pub is_published : Host → SiteName → ℕ → Bool
is_published host site n = is_ready host site n && is_none (commit_refusal host (Publish site n))

-- whether the command opens a deploy that would then be published
abbrev pub opens_published : Host → Command → Bool
opens_published host (Open site files auto) = is_published (with_entry host (Change (Open site files auto))) site (next_number host)
opens_published host command = false

-- the entry that would publish the deploy that the command opens, if it opens one
abbrev pub publishing_of : Host → Command → Option Entry
publishing_of host (Open site files auto) = Some (Change (Publish site (next_number host)))
publishing_of host command = None
