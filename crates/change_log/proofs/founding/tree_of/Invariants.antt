use Rattle.std.proofs.Common.{◌≡◌, map, take}
use Rattle.change_log.specs.Bases.{file_of}
use Rattle.change_log.proofs.founding.tree_of.Given as goal

abbrev pub invariant-loop-path : goal.invariant-loop-path
invariant-loop-path g l = l.tree.items ≡ map (λ f. (f.0, file_of (g.U.Uploads.contents l.uploads) f.1)) (take l.path-index l.entries)
