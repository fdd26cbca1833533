-- The list of the changes of a site.
use Rattle.std.specs.Prelude.{ℕ, ◌-◌, List, length, drop, not, Option, Some, None, option_and_then, if◌then◌else◌}
use Rattle.std.specs.List.{filter_map}
use Rattle.host_names.specs.declared.names.SiteName.{SiteName}
use Rattle.site_change.specs.declared.entries.Entry.{Entry}
use Rattle.site_change.specs.declared.entries.Entry.TheVariants as entry
use Rattle.site_change.specs.Entries.{site_of_entry}
use Rattle.change_undo.specs.Histories.{entry_at, is_among, same_site, undone}
use Rattle.change_log.specs.Logs.{Log, numbered}
use Rattle.host_api.specs.ChangeLines.{word_of}
use Rattle.host_api.specs.declared.change_lines.ChangeLine.{ChangeLine}
use Rattle.host_api.specs.declared.change_lines.ChangeLine.TheVariants as line

-- the line of an entry, where the changes of these numbers were undone
abbrev pub line_of : List ℕ → ℕ → Entry → ChangeLine
line_of gone n (entry.Change command) = line.Change n (word_of command) (not (is_among gone n))
line_of gone n (entry.Undo site k) = line.Undo n k

-- the same, if the entry is of the site
abbrev pub line_in : SiteName → List ℕ → ℕ × Entry → Option ChangeLine
line_in site gone e = if same_site (site_of_entry e.1) site then Some (line_of gone e.0 e.1) else None

-- the lines of a site, the oldest first
abbrev pub lines_of : Log → SiteName → List ChangeLine
lines_of log site = filter_map (line_in site (undone log.entries)) (numbered log)

-- the last 1,000 lines of a site, the oldest first
abbrev pub shown_lines : Log → SiteName → List ChangeLine
shown_lines log site = let lines = lines_of log site in drop (length lines - 1000) lines

-- ---- what private functions say

-- the line of the entry of a number, if it is of the site
abbrev pub line_at : Log → SiteName → ℕ → Option ChangeLine
line_at log site n = option_and_then (λ (e : Entry). line_in site (undone log.entries) (n, e)) (entry_at log n)
