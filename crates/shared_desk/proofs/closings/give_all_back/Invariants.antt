use Rattle.std.proofs.Common.{◌≡◌, length, sum}
use Rattle.shared_desk.specs.Closings.{made_of, seats_of}
use Rattle.shared_desk.proofs.closings.give_all_back.Given as goal

-- those that were taken so far are given back
abbrev pub invariant-loop-seat : goal.invariant-loop-seat
invariant-loop-seat g l = (seats_of l.all ≡ length l.yielded) × (made_of l.all ≡ sum l.yielded)
