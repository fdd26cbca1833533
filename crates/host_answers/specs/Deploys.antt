-- What opens a deploy, and whose it is.
use Rattle.std.specs.Prelude.{◌≡◌, Bool, Option, Some, None}
use Rattle.host_names.specs.declared.digests.Digest.{Digest}
use Rattle.host_names.specs.declared.names.SiteName.{SiteName}
use Rattle.site_state.specs.Files.{Paths}
use Rattle.site_state.specs.Listings.{Listed}
use Rattle.site_change.specs.declared.commands.Command.{Command}
use Rattle.site_change.specs.declared.commands.Command.TheVariants.{Open}
use Rattle.site_change.specs.declared.entries.Entry.{Entry}
use Rattle.site_change.specs.declared.entries.Entry.TheVariants.{Change}

-- the opening of a deploy: its site, what it lists, and whether it is to publish itself
pub record Opening : Type 0 where
  pub site : SiteName
  pub files : Paths (Option Digest)
  pub auto : Bool

-- what a command opens, if it is an opening
abbrev pub opened_by : Command → Option Opening
opened_by (Open site files auto) = Some (record { site = site; files = files.1; auto = auto })
opened_by command = None

-- the site of a deploy is that of the entry which opened it
abbrev pub site_of_deploy : Option Entry → Option SiteName
site_of_deploy (Some (Change (Open site files auto))) = Some site
site_of_deploy entry = None

-- ---- what private functions say

-- the command opens a deploy
abbrev pub IsOpening : Command → Type 0
IsOpening command = (site : SiteName) × (files : Listed) × (auto : Bool) × (command ≡ Open site files auto)
