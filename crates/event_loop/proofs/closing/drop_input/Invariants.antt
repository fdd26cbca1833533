use Rattle.std.proofs.Common.{◌≤◌, ◌*◌}
use Rattle.event_loop.proofs.closing.drop_input.Given as goal

-- each read so far took a piece at most
abbrev pub invariant-reads : goal.invariant-reads
invariant-reads g l = l.dropped ≤ l.counter * 8192
