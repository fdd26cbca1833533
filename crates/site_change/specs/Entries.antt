-- The entries of a history.
use Rattle.host_names.specs.declared.names.SiteName.{SiteName}
use Rattle.site_change.specs.Changes.{site_of_command}
use Rattle.site_change.specs.declared.entries.Entry.{Entry}
use Rattle.site_change.specs.declared.entries.Entry.TheVariants.{Change, Undo}

abbrev pub site_of_entry : Entry → SiteName
site_of_entry (Change command) = site_of_command command
site_of_entry (Undo site k) = site
