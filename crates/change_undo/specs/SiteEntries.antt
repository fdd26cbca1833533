-- Which entries of a log are of a site.
use Rattle.std.specs.Prelude.{ℕ, List, filter, map}
use Rattle.host_names.specs.declared.names.SiteName.{SiteName}
use Rattle.site_change.specs.Entries.{site_of_entry}
use Rattle.change_undo.specs.Histories.{same_site}
use Rattle.change_log.specs.Logs.{Log, numbered}

-- the numbers of the entries of the site, in their order
abbrev pub numbers_of : Log → SiteName → List ℕ
numbers_of log site = map (λ e. e.0) (filter (λ e. same_site (site_of_entry e.1) site) (numbered log))
