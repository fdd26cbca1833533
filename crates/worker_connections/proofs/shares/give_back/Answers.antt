use Rattle.std.proofs.Common.{arith, sym}
use Rattle.worker_connections.proofs.SharedPlaces.{past_with, set_with}
use Rattle.worker_connections.specs.Shares.{one_back}
use Rattle.worker_connections.proofs.shares.give_back.Goals as goal

pub returns-then-at-len : goal.returns-then-at-len
returns-then-at-len c = rw c.saturating_sub.ensures (set_with c.args.workers.now.items c.args.at c.index-share.result.now one_back (omega (arith, c.if-at-len.true, c.len.ensures)) c.index-share.ensures)

pub returns-else-at-len : goal.returns-else-at-len
returns-else-at-len c = sym (past_with c.args.workers.now.items c.args.at one_back (omega (arith, c.if-at-len.false, c.len.ensures)))
