use Rattle.std.proofs.Common.{◌≡◌, map, take}
use Rattle.world_read.proofs.reads.shares.Given as goal

abbrev pub invariant-loop-chunk : goal.invariant-loop-chunk
invariant-loop-chunk l = map (λ chunk. chunk.value) l.all.items ≡ map (λ chunk. chunk.value) (take l.chunk-index l.chunks)
