use Rattle.std.proofs.Common.{◌≡◌, take}
use Rattle.touch_index.specs.Postings as spec
use Rattle.touch_index.proofs.index.edits_of.Given as goal

abbrev pub invariant-loop-key : goal.invariant-loop-key
invariant-loop-key l = l.edits.items ≡ spec.edits (take l.key-index l.keys) l.number l.posted
