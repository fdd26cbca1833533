-- A shelf whose chunks are read through a cache, and what reads do to both.
use Rattle.std.specs.Prelude.{◌≡◌, ◌⊎◌, ℕ, ◌<◌, ◌≤◌, List, Option, None, Some, Result, Ok, Err}
use Rattle.std.specs.List.{AllByRecursion, Contains}
use Rattle.host_names.specs.declared.digests.Digest.{Digest}
use Rattle.host_names.specs.Digests.{digest_of}
use Rattle.byte_view.specs.Holds.{Held}
use Rattle.chunk_reads.specs.declared.faults.ReadFault.{ReadFault}
use Rattle.chunk_reads.specs.declared.faults.ReadFault.TheVariants.{Device, OutOfMemory}
use Rattle.blob_store.specs.declared.shelves.ShelfName.{ShelfName}
use Rattle.blob_store.specs.declared.shelves.ShelfName.TheVariants.{Part}
use Rattle.blob_store.specs.Calls.{Call}
use Rattle.chunk_lru.specs.Caches.{Cache}
use Rattle.chunk_lru.specs.Rules.{added, held, looked_up}
use Rattle.chunk_lru.specs.declared.caches.Which.TheVariants.{Main}
use Rattle.chunk_reads.specs.Reading.{Reads, ReadsInTurn}
use Rattle.chunk_group.specs.Stores.{IsPiece}

-- a shelf, and the cache that its chunks are read through
pub record CachedShelf (S : Type 0) : Type 0 where
  pub shelf : S
  pub cache : Cache

-- the same cache over another shelf
abbrev pub with_shelf : {S : Type 0} → S → CachedShelf S → CachedShelf S
with_shelf shelf node = record { shelf = shelf; cache = node.cache }

-- ---- a read of a chunk

-- the chunk is in the cache, and the shelf isn't asked: it is answered, and becomes the first of its list; or there was no memory for a share of it
pub record IsFound {S : Type 0} (old : CachedShelf S) (name : Digest) (answer : Result (List ℕ) ReadFault) (new : CachedShelf S) : Type 0 where
  pub chunk : List ℕ
  pub held : held name old.cache ≡ Some chunk
  pub same : new.shelf ≡ old.shelf
  pub answered : ((answer ≡ Ok chunk) × (new.cache ≡ looked_up name old.cache)) ⊎ ((answer ≡ Err OutOfMemory) × (new.cache ≡ old.cache))

-- the shelf is asked once: the chunk that it gives is answered, and kept in the main list, or there was no memory to keep it; or there was none to
-- answer it, and it isn't kept; or the shelf gives none, and why is answered
abbrev pub IsFromShelf : {S : Type 0} → (did : S → Call → S → Type 0) → CachedShelf S → Digest → Result (List ℕ) ReadFault → CachedShelf S → Type 0
IsFromShelf did old name (Ok chunk) new =
    IsPiece did old.shelf name (Ok chunk) new.shelf × ((new.cache ≡ added Main chunk old.cache) ⊎ (new.cache ≡ old.cache))
IsFromShelf did old name (Err fault) new =
    (IsPiece did old.shelf name (Err fault) new.shelf ⊎ ((fault ≡ OutOfMemory) × ((chunk : List ℕ) × IsPiece did old.shelf name (Ok chunk) new.shelf)))
    × (new.cache ≡ old.cache)

-- the chunk isn't in the cache, and the shelf is asked for it; a device is blamed only where it failed, and its failures are never fewer
pub record IsLoaded {S : Type 0} (did : S → Call → S → Type 0) (failures : S → ℕ) (old : CachedShelf S) (name : Digest) (answer : Result (List ℕ) ReadFault) (new : CachedShelf S)
    : Type 0 where
  pub missed : held name old.cache ≡ None
  pub given : IsFromShelf did old name answer new
  pub failed : answer ≡ Err Device → failures old.shelf < failures new.shelf
  pub goes_on : failures old.shelf ≤ failures new.shelf

-- a read of the chunk of a name, its answer, and what is there then
abbrev pub ReadsChunk : {S : Type 0} → (did : S → Call → S → Type 0) → (failures : S → ℕ) → Reads (CachedShelf S)
ReadsChunk did failures old name answer new = IsFound old name answer new ⊎ IsLoaded did failures old name answer new

-- ---- a read of a stretch of a file

-- the chunks of a hold were read one after another, and nothing else was done
abbrev pub GaveOfNode : {S : Type 0} → (did : S → Call → S → Type 0) → (failures : S → ℕ) → CachedShelf S → Held → CachedShelf S → Type 0
GaveOfNode did failures old hold new = ReadsInTurn (ReadsChunk did failures) old hold.chunks new

-- ---- what is in the cache

-- each chunk in the cache is such a one
abbrev pub AllCached : (List ℕ → Type 0) → Cache → Type 0
AllCached P cache = AllByRecursion P cache.main × AllByRecursion P cache.hot

-- a chunk is in the cache
abbrev pub IsCached : Cache → List ℕ → Type 0
IsCached cache chunk = Contains cache.main chunk ⊎ Contains cache.hot chunk

-- the shelf has each chunk in the cache, under its name
abbrev pub HasCached : {S : Type 0} → (has : S → ShelfName → Option (List ℕ)) → CachedShelf S → Type 0
HasCached has node = AllCached (λ chunk. has node.shelf (Part (digest_of chunk)) ≡ Some chunk) node.cache
