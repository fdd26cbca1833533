-- How far the files of open deploys are known to be uploaded.
use Rattle.std.specs.Prelude.{ℕ, ◌<◌, ◌≤◌, [], Option, Some, unwrap_or}
use Rattle.std.specs.BTreeMap as tree
use Rattle.std.specs.BTreeMap.{BTreeMap}
use Rattle.std.specs.Ordering.{nat_cmp}
use Rattle.byte_view.specs.Contents.{Contents}
use Rattle.host_names.specs.declared.digests.Digest.{Digest}
use Rattle.host_names.specs.declared.names.SiteName.{SiteName}
use Rattle.site_state.specs.Files.{Paths}
use Rattle.site_state.specs.Missing.{first_lacking_of}
use Rattle.site_state.specs.declared.values.Draft.{Draft}
use Rattle.site_change.specs.declared.commands.Command.TheVariants.{Open}
use Rattle.site_change.specs.declared.entries.Entry.{Entry}
use Rattle.site_change.specs.declared.entries.Entry.TheVariants.{Change}
use Rattle.change_undo.specs.Histories.{Past}
use Rattle.change_undo.specs.Openings.{IsDraftOfBase}
use Rattle.change_log.specs.Logs.{Log, entry_at}
use Rattle.host_server.specs.Hosts.{IsKept}

-- the place that is kept for the deploy of a number; the first where none is
abbrev pub place_of : BTreeMap ℕ ℕ → ℕ → ℕ
place_of places n = unwrap_or (tree.get nat_cmp places n) 0

-- what an entry lists that opens a deploy; else nothing
abbrev pub listed_by : Option Entry → Paths (Option Digest)
listed_by (Some (Change (Open site files auto))) = files.1
listed_by entry = []

-- of what each entry and each open deploy of the base list, nothing is lacking before the place that is kept for its number
pub record AreReached (log : Log) (uploads : Contents) (places : BTreeMap ℕ ℕ) : Type 0 where
  pub of_entries : (n : ℕ) → log.base < n → place_of places n ≤ first_lacking_of uploads (listed_by (entry_at log n))
  pub of_base : (site : SiteName) (n : ℕ) (draft : Draft) → IsDraftOfBase log site n draft → place_of places n ≤ first_lacking_of uploads draft.files.1

-- the uploads are some over which the history is what it is, and the places are reached by them
pub record IsKeptWith (past : Past) (uploads : Contents) (places : BTreeMap ℕ ℕ) : Type 0 where
  pub over : IsKept past uploads
  pub reached : AreReached past.entries uploads places
