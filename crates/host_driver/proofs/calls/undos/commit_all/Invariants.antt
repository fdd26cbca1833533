use Rattle.change_undo.specs.Plans.{IsHistoryOver}
use Rattle.host_driver.proofs.calls.undos.commit_all.Given as goal

-- the history is what it is over these uploads
abbrev pub invariant-loop-turn : goal.invariant-loop-turn
invariant-loop-turn l = IsHistoryOver l.uploads.known l.history
