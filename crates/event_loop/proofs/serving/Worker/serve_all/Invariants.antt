use Rattle.std.proofs.Common.{◌≡◌}
use Rattle.event_loop.proofs.serving.Worker.serve_all.Given as goal

-- it is no turn
abbrev pub invariant-loop-at : goal.invariant-loop-at
invariant-loop-at g l = l.self.done ≡ l.fn.self.done
