-- Looks for chunks in the caches.
use Rattle.std.specs.Prelude.{◌≡◌, ◌⊎◌, ℕ, List, None, Some, Result, Ok, Err}
use Rattle.host_names.specs.declared.digests.Digest.{Digest}
use Rattle.chunk_reads.specs.declared.faults.ReadFault.{ReadFault}
use Rattle.chunk_reads.specs.declared.faults.ReadFault.TheVariants.{Missing, OutOfMemory}
use Rattle.chunk_lru.specs.Rules.{held, looked_up}
use Rattle.chunk_group.specs.declared.caches.Caches.{Caches}

-- the chunk is there, and becomes the first of its list; or it isn't, or there is no memory for a share of it, and nothing changes
abbrev pub LooksUp : {C : Type 0} → Caches C → Digest → Result (List ℕ) ReadFault → Caches C → Type 0
LooksUp old name (Ok chunk) new = (held name old.cache ≡ Some chunk) × (new.cache ≡ looked_up name old.cache) × (new.coin ≡ old.coin)
LooksUp old name (Err fault) new = (((fault ≡ Missing) × (held name old.cache ≡ None)) ⊎ (fault ≡ OutOfMemory)) × (new ≡ old)
