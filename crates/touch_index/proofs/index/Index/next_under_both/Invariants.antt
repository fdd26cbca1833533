use Rattle.std.proofs.Common.{◌≡◌, ℕ, ◌<◌, ◌≤◌, ◌-◌, ◌^◌, false, ◌&&◌}
use Rattle.touch_index.specs.Postings.{is_posted}
use Rattle.touch_index.proofs.index.Index.next_under_both.Given as goal

-- none above the number and up to here is posted under both
abbrev pub invariant-numbers : goal.invariant-numbers
invariant-numbers l = record {
  above : l.number ≤ l.after;
  none : (i : ℕ) → l.number < i → i ≤ l.after → (is_posted l.self l.one i && is_posted l.self l.other i) ≡ false;
}

abbrev pub decreases-numbers : goal.decreases-numbers
decreases-numbers l = 2 ^ 64 - l.after
