use Rattle.std.proofs.Common.{◌≡◌, ◌+◌, ◌<◌, ◌^◌, length}
use Rattle.chunk_lru.specs.Caches.{together}
use Rattle.chunk_lru.specs.Rules.{evicted, total}
use Rattle.chunk_lru.proofs.caches.evict.Given as goal

-- what goes of the rest is what goes of all
abbrev pub invariant-loop-hot : goal.invariant-loop-hot
invariant-loop-hot l = record {
  rest : evicted (together l.limit l.main l.hot) ≡ evicted (together l.limit l.fn.main l.fn.hot);
  main_room : l.main.room ≡ l.fn.main.room;
  hot_room : l.hot.room ≡ l.fn.hot.room;
  bound : total (together l.limit l.main l.hot) < 2 ^ 127;
}

abbrev pub decreases-loop-hot : goal.decreases-loop-hot
decreases-loop-hot l = length l.main.chunks + length l.hot.chunks
