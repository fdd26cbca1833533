use Rattle.std.proofs.Common.{ℕ, ◌≤◌, List, arith}
use Rattle.host_disk.specs.Crashes.{Cut}
use Rattle.journal_tests.proofs.tests.failing_disk.leave_cut.Goals as goal

-- a cut to more bytes that is cut short is one to fewer
cut_to_fewer : (n m : ℕ) (old new : List ℕ) → m ≤ n → Cut n old new → Cut m old new
cut_to_fewer n m old new le cut = record {
  no_shorter = omega (arith, le, cut.no_shorter);
  no_longer = cut.no_longer;
  below = λ i low less. cut.below i (omega (arith, le, low)) less;
}

pub returns-in-Some-clause-crash : goal.returns-in-Some-clause-crash
returns-in-Some-clause-crash g c modelled image left =
    let was = c.cut.ensures.crash modelled image left in
    (was.0, (c.len.ensures.crash modelled was.0).0 was.1, cut_to_fewer _ c.args.size _ _ c.in-Some.ensures was.2)
