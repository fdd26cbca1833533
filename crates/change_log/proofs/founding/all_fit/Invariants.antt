use Rattle.std.proofs.Common.{◌≡◌, length}
use Rattle.std.specs.FinMap as map
use Rattle.std.specs.List.{list_all}
use Rattle.change_log.specs.Founding.{fits}
use Rattle.change_log.proofs.founding.all_fit.Given as goal

abbrev pub invariant-cells : goal.invariant-cells
invariant-cells g l =
    list_all (λ e. fits (g.U.Uploads.contents l.uploads) l.base l.names e.0 e.1) l.left
    ≡ list_all (λ e. fits (g.U.Uploads.contents l.uploads) l.base l.names e.0 e.1) (map.entries l.names)

abbrev pub decreases-cells : goal.decreases-cells
decreases-cells g l = length l.left
