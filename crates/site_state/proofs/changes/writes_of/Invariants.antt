use Rattle.std.proofs.Common.{◌≡◌, take}
use Rattle.site_state.specs.Changes.{writes}
use Rattle.site_state.proofs.changes.writes_of.Given as goal

abbrev pub invariant-loop-change : goal.invariant-loop-change
invariant-loop-change l = l.all.items ≡ writes l.side (take l.change-index l.changes)
