use Rattle.std.proofs.Common.{arith}
use Rattle.chunk_lru.proofs.caches.ChunkCache.sizes.Goals as goal

pub overflow_cast-result : goal.overflow_cast-result
overflow_cast-result c = omega (arith, c.size.ensures, c.self.invariant.fits, c.self.invariant.within)

pub overflow_cast-result-2 : goal.overflow_cast-result-2
overflow_cast-result-2 c = omega (arith, c.size-2.ensures, c.self.invariant.fits, c.self.invariant.within)
