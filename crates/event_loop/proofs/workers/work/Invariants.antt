use Rattle.std.proofs.Common.{◌≡◌}
use Rattle.event_loop.proofs.workers.work.Given as goal

-- each turn that was taken is done
abbrev pub invariant-loop : goal.invariant-loop
invariant-loop g l =
    (goal.iterator-loop g).can_next l.iterator' × (goal.iterator-loop g).is_finite l.iterator' × (g.S.Takes.done l.service ≡ g.A.Turns.taken l.turns)
