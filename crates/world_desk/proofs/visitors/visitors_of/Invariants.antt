use Rattle.std.proofs.Common.{◌≡◌, replicate}
use Rattle.world_desk.specs.Visitors.{unseen}
use Rattle.world_desk.proofs.visitors.visitors_of.Given as goal

abbrev pub invariant-loop : goal.invariant-loop
invariant-loop l = l.visitors.items ≡ replicate l.counter unseen
