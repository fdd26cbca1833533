use Rattle.std.proofs.Common.{take}
use Rattle.std.specs.FinMap as finmap
use Rattle.site_change.specs.Changes.{is_listed, with_listed}
use Rattle.site_change.specs.Differences.{AreChangesIn}
use Rattle.site_change.proofs.publishing.listed_changes.Given as goal

-- the paths so far have changed
abbrev pub invariant-loop-path : goal.invariant-loop-path
invariant-loop-path g l =
    AreChangesIn (is_listed l.site (take l.path-index l.entries)) (finmap.get l.state) (finmap.get (with_listed l.site (g.U.Uploads.contents l.uploads) l.entries l.state)) l.changes.items
