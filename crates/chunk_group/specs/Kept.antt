-- What of a loaded chunk is kept.
use Rattle.std.specs.Prelude.{◌≡◌, ◌≢◌, ◌⊎◌, ℕ, List}
use Rattle.chunk_lru.specs.declared.caches.Which.{Which}
use Rattle.chunk_lru.specs.declared.caches.Which.TheVariants.{Hot, Main}
use Rattle.chunk_lru.specs.Caches.{Cache}
use Rattle.chunk_lru.specs.Rules.{added}
use Rattle.chunk_group.specs.declared.caches.Caches.{Caches}
use Rattle.chunk_group.specs.declared.loads.Giver.{Giver}
use Rattle.chunk_group.specs.declared.loads.Giver.TheVariants.{Peer, Source}

-- a chunk is added to one of the caches, or there was no memory for that, and nothing changed
abbrev pub KeptIn : Which → List ℕ → Cache → Cache → Type 0
KeptIn which chunk old new = (new ≡ added which chunk old) ⊎ (new ≡ old)

-- how a coin draws
abbrev pub Drew : Type 0 → Type 1
Drew C = C → ℕ → C → Type 0

-- what the source gave is kept in main, and no coin is drawn; of what a peer gave a coin is drawn, and at 0 it is kept in hot
abbrev pub IsKept : {C : Type 0} → Drew C → Giver → List ℕ → Caches C → Caches C → Type 0
IsKept drew Source chunk old new = KeptIn Main chunk old.cache new.cache × (new.coin ≡ old.coin)
IsKept drew Peer chunk old new =
    (number : ℕ) × drew old.coin number new.coin × (number ≡ 0 → KeptIn Hot chunk old.cache new.cache) × (number ≢ 0 → new.cache ≡ old.cache)
