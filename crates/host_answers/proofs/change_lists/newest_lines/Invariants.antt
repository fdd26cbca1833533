use Rattle.host_answers.proofs.Lines.{AreFound}
use Rattle.host_answers.proofs.change_lists.newest_lines.Given as goal

abbrev pub invariant-loop-number : goal.invariant-loop-number
invariant-loop-number g l = AreFound (g.H.House.calls.seen l.house).entries l.site l.lines.items l.number-iterator
