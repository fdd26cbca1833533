use Rattle.std.proofs.Common.{refl, arith}
use Rattle.chunk_lru.specs.Caches.{empty}
use Rattle.chunk_lru.proofs.Fewest.{stays_within}
use Rattle.chunk_lru.proofs.laws.caches_stay_within_their_limit.Goals as goal

pub returns-clause-limit : goal.returns-clause-limit
returns-clause-limit c = λ limit calls. (stays_within limit calls (empty limit) (refl, omega arith)).0

pub returns-clause-within : goal.returns-clause-within
returns-clause-within c = λ limit calls. (stays_within limit calls (empty limit) (refl, omega arith)).1
