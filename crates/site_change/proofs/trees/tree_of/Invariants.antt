use Rattle.std.proofs.Common.{◌≡◌, take}
use Rattle.site_change.specs.Changes.{tree_of}
use Rattle.site_change.proofs.trees.tree_of.Given as goal

abbrev pub invariant-loop-path : goal.invariant-loop-path
invariant-loop-path g l = l.tree.items ≡ tree_of (g.U.Uploads.contents l.uploads) (take l.path-index l.entries)
