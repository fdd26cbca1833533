use Rattle.std.proofs.Common.{drop}
use Rattle.range_reply.proofs.HeldInTurn.{HeldSoFar}
use Rattle.range_reply.proofs.stretches.hold_each.Given as goal

abbrev pub invariant-loop-stretch : goal.invariant-loop-stretch
invariant-loop-stretch g l = HeldSoFar g.H.Holder.gave l.fn.holder l.info.value l.holds.items (drop l.stretch-index l.stretches) l.stretches l.holder
