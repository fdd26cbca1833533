use Rattle.std.proofs.Common.{◌≡◌, ℕ, ◌-◌, ◌*◌, ◌<◌, length, map, get_or, min, []}
use Rattle.byte_view.proofs.holds.have_sizes.Given as goal

abbrev pub invariant-loop-chunk : goal.invariant-loop-chunk
invariant-loop-chunk l =
    (l.left ≡ l.fn.left - l.chunk-index * 65536)
    × ((k : ℕ) → k < l.chunk-index → length (get_or (map (λ chunk. chunk.value) l.chunks) k []) ≡ min 65536 (l.fn.left - k * 65536))
