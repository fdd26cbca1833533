use Rattle.std.proofs.Common.{ℕ, ◌<◌, map}
use Rattle.range_reply.specs.Multipart.{candidate}
use Rattle.range_reply.specs.Slices.{ArePure, OccursInOne, all_meant, shown}
use Rattle.range_reply.proofs.choices.boundary.Given as goal

abbrev pub invariant-loop-number : goal.invariant-loop-number
invariant-loop-number l = record {
  shown : (lower : ℕ) → lower < l.number → OccursInOne (candidate l.digest lower) (map shown l.holds);
  pure : ArePure l.holds → (lower : ℕ) → lower < l.number → OccursInOne (candidate l.digest lower) (all_meant l.holds);
}
