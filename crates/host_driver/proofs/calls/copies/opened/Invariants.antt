use Rattle.change_undo.specs.Plans.{IsHistoryOver}
use Rattle.host_driver.proofs.calls.copies.opened.Given as goal

-- the history is what it is over these uploads
abbrev pub invariant-loop : goal.invariant-loop
invariant-loop l = IsHistoryOver l.uploads.known l.history
