use Rattle.std.proofs.Common.{ℕ, ◌<◌, get_or, [], map}
use Rattle.range_reply.specs.Slices.{ArePure, all_meant, shown}
use Rattle.byte_view.proofs.Occurrences.{OccursIn}
use Rattle.range_reply.proofs.searches.occurs_in_one.Given as goal

abbrev pub invariant-loop-hold : goal.invariant-loop-hold
invariant-loop-hold l = record {
  shown : (k : ℕ) → k < l.hold-index → OccursIn l.bytes (get_or (map shown l.holds) k []) → ⊥;
  pure : ArePure l.holds → (k : ℕ) → k < l.hold-index → OccursIn l.bytes (get_or (all_meant l.holds) k []) → ⊥;
}
