use Rattle.std.proofs.Common.{◌≡◌, ◌++◌, length}
use Rattle.site_change.specs.Changes as changes
use Rattle.site_change.specs.Differences.{AreMovable}
use Rattle.site_change.proofs.folders.moved_files.Given as goal

abbrev pub invariant-files : goal.invariant-files
invariant-files l = record {
  movable : AreMovable l.source l.target l.left;
  so_far : l.moved.items ++ changes.moved_files l.source l.target l.left ≡ changes.moved_files l.source l.target l.fn.files;
}

abbrev pub decreases-files : goal.decreases-files
decreases-files l = length l.left
