use Rattle.std.proofs.Common.{Some, ap, subst, sym}
use Rattle.site_state.specs.States.{State}
use Rattle.change_log.proofs.Resolving.{base-empty, resolved-empty}
use Rattle.change_undo.specs.Histories.{Past}
use Rattle.change_undo.specs.Plans.{IsHistoryOver}
use Rattle.host_driver.proofs.calls.copies.empty.Goals as goal

pub returns : goal.returns
returns c =
    let uploads = c.args.uploads.now.known in
    subst (λ (past : Past). IsHistoryOver uploads past) (sym c.new.ensures)
    (record { legal = (base-empty uploads, tt); ran = ap (λ (s : State). Some s) (resolved-empty uploads); planned = tt })
