use Rattle.std.proofs.Common.{◌≡◌, ◌≤◌, ◌-◌, length, take}
use Rattle.touch_index.proofs.fronts.same_bytes.Given as goal

abbrev pub invariant-bytes : goal.invariant-bytes
invariant-bytes l = record {
  same : take l.len l.one ≡ take l.len l.other;
  one : l.len ≤ length l.one;
  other : l.len ≤ length l.other;
}

abbrev pub decreases-bytes : goal.decreases-bytes
decreases-bytes l = length l.one - l.len
