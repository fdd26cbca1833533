use Rattle.std.proofs.Common.{◌≡◌, ◌++◌, take}
use Rattle.touch_index.specs.Keys as spec
use Rattle.touch_index.proofs.keys.push_listed.Given as goal

abbrev pub invariant-loop-path : goal.invariant-loop-path
invariant-loop-path l = l.keys.items ≡ l.initial.keys.items ++ spec.listed_keys l.site (take l.path-index l.path-items)
