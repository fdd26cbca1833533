use Rattle.std.proofs.Common.{◌≡◌, ℕ, [], Some, ap, subst, sym}
use Rattle.std.specs.FinMap as map
use Rattle.byte_view.specs.Contents.{Contents}
use Rattle.site_state.specs.States.{State}
use Rattle.change_log.proofs.Resolving.{base-empty, resolved-empty}
use Rattle.change_log.specs.Logs.{empty_log}
use Rattle.change_undo.specs.Histories.{Past}
use Rattle.change_undo.specs.Plans.{IsHistoryOver}
use Rattle.world_desk.proofs.desks.Desk.new.Goals as goal

-- a history without entries is one over any uploads
new_over : (uploads : Contents) (limit : ℕ) (past : Past) → past ≡ record { limit = limit; entries = empty_log; plans = []; state = map.empty } → IsHistoryOver uploads past
new_over uploads limit past is =
    subst (λ (p : Past). IsHistoryOver uploads p) (sym is)
    (record { legal = (base-empty uploads, tt); ran = ap (λ (s : State). Some s) (resolved-empty uploads); planned = tt })

pub invariant_of-result : goal.invariant_of-result
invariant_of-result c = (new_over c.new-3.result c.args.limit c.new.result c.new.ensures, new_over c.new-3.result c.args.limit c.new-2.result c.new-2.ensures)
