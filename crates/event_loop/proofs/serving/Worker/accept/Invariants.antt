use Rattle.std.proofs.Common.{◌≡◌}
use Rattle.event_loop.proofs.serving.Worker.accept.Given as goal

-- it is no turn
abbrev pub invariant-loop : goal.invariant-loop
invariant-loop g l = l.self.done ≡ l.fn.self.done
