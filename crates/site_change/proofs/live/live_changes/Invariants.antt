use Rattle.std.proofs.Common.{◌+◌, List, ◌++◌, length}
use Rattle.site_change.specs.Differences.{AreLiveChanges, AreSides}
use Rattle.site_state.specs.declared.changes.Change.{Change}
use Rattle.site_change.proofs.live.live_changes.Given as goal

-- what is left changes the rest, after what is changed already
abbrev pub invariant-loop-changes : goal.invariant-loop-changes
invariant-loop-changes l = record {
  sides : AreSides l.site l.live_left l.tree_left;
  behind : (rest : List Change) → AreLiveChanges l.site l.live_left l.tree_left rest → AreLiveChanges l.site l.fn.live l.tree (l.changes.items ++ rest);
}

abbrev pub decreases-loop-changes : goal.decreases-loop-changes
decreases-loop-changes l = length l.live_left + length l.tree_left
