use Rattle.std.proofs.Common.{ℕ, ◌≤◌, List, arith}
use Rattle.host_disk.specs.Crashes.{Torn}
use Rattle.journal_tests.proofs.tests.failing_disk.leave_written.Goals as goal

-- a write of fewer bytes that is cut short is one of more
torn_of_more : (at n m : ℕ) (old new : List ℕ) → n ≤ m → Torn at n old new → Torn at m old new
torn_of_more at n m old new le torn = record {
  no_shorter = torn.no_shorter;
  no_longer = omega (arith, le, torn.no_longer);
  before = torn.before;
  after = λ i less back. torn.after i less (omega (arith, le, back));
}

pub returns-in-Some-clause-crash : goal.returns-in-Some-clause-crash
returns-in-Some-clause-crash g c modelled image left =
    let was = c.write_at.ensures.crash modelled image left in
    (was.0, was.1, torn_of_more c.args.at _ _ _ _ c.in-Some.ensures was.2)
