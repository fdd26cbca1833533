use Rattle.std.proofs.Common.{◌≡◌, length}
use Rattle.std.specs.List.{AllByRecursion, list_any}
use Rattle.site_change.specs.Changes.{is_too_long}
use Rattle.site_change.specs.Differences.{IsBelowPath}
use Rattle.site_change.proofs.folders.has_too_long.Given as goal

abbrev pub invariant-files : goal.invariant-files
invariant-files l = record {
  below : AllByRecursion (λ e. IsBelowPath l.source e.0) l.left;
  same : list_any (is_too_long l.source l.target) l.left ≡ list_any (is_too_long l.source l.target) l.fn.files;
}

abbrev pub decreases-files : goal.decreases-files
decreases-files l = length l.left
