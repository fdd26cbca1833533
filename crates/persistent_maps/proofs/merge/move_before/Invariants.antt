use Rattle.std.proofs.Common.{◌≡◌, ◌++◌, deque_len}
use Rattle.persistent_maps.specs.Merge.{before_key, from_key}
use Rattle.persistent_maps.proofs.merge.move_before.Given as goal

abbrev pub invariant-loop-pairs : goal.invariant-loop-pairs
invariant-loop-pairs g l = record {
  moved : l.merged.items ++ before_key g.K.Ord.cmp l.key l.pairs.items ≡ l.initial.merged.items ++ before_key g.K.Ord.cmp l.key l.initial.pairs.items;
  rest : from_key g.K.Ord.cmp l.key l.pairs.items ≡ from_key g.K.Ord.cmp l.key l.initial.pairs.items;
}

abbrev pub decreases-loop-pairs : goal.decreases-loop-pairs
decreases-loop-pairs g l = deque_len l.pairs
