use Rattle.std.proofs.Common.{◌≡◌, ◌++◌, true, length}
use Rattle.std.specs.FinMap as map
use Rattle.std.specs.List.{list_all}
use Rattle.site_state.specs.Changes.{writes}
use Rattle.site_state.specs.declared.changes.Side.TheVariants.{After}
use Rattle.change_log.specs.Founding.{has_known, writes_in}
use Rattle.change_log.proofs.founding.changes_of.Given as goal

abbrev pub invariant-cells : goal.invariant-cells
invariant-cells g l =
    (writes After l.changes.items ++ writes_in (g.U.Uploads.contents l.uploads) l.left ≡ writes_in (g.U.Uploads.contents l.uploads) (map.entries l.names))
    × (list_all (λ e. has_known (g.U.Uploads.contents l.uploads) e.1) l.left ≡ true)

abbrev pub decreases-cells : goal.decreases-cells
decreases-cells g l = length l.left
