-- What the rule of evictions comes to.
use Rattle.std.specs.Prelude.{◌≡◌, ℕ, zero, suc, ◌<◌, ◌≤◌}
use Rattle.chunk_lru.specs.Caches.{Cache}
use Rattle.chunk_lru.specs.Rules.{evicted, total, with_one_gone}

-- so many chunks go, one after another, each the last of the victim then
abbrev pub with_gone : ℕ → Cache → Cache
with_gone zero cache = cache
with_gone (suc n) cache = with_gone n (with_one_gone cache)

-- of the chunks that the rule names in turn the fewest go after which the rest is within the limit
pub record EvictsFewest (cache : Cache) : Type 0 where
  pub count : ℕ
  pub is : evicted cache ≡ with_gone count cache
  pub within : total (with_gone count cache) ≤ cache.limit
  pub fewest : (n : ℕ) → n < count → cache.limit < total (with_gone n cache)
