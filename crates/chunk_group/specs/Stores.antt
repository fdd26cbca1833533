-- What a load from a shelf does.
use Rattle.std.specs.Prelude.{◌≡◌, ℕ, ◌<◌, ◌≤◌, List, Some, Result, Ok, Err}
use Rattle.host_names.specs.declared.digests.Digest.{Digest}
use Rattle.host_names.specs.Digests.{digest_of}
use Rattle.chunk_reads.specs.declared.faults.ReadFault.{ReadFault}
use Rattle.chunk_reads.specs.declared.faults.ReadFault.TheVariants.{Device}
use Rattle.blob_store.specs.declared.shelves.ShelfName.TheVariants.{Part}
use Rattle.blob_store.specs.Calls.{Call, Got}
use Rattle.blob_store.specs.Faults.{IsChunkFault}
use Rattle.chunk_group.specs.declared.file_sources.FileSource.{FileSource}

-- the shelf gives the piece of this name, or what it answers is a fault
abbrev pub IsPiece : {S : Type 0} → (did : S → Call → S → Type 0) → S → Digest → Result (List ℕ) ReadFault → S → Type 0
IsPiece did old name (Ok piece) new = (digest_of piece ≡ name) × did old (Got (Part name) (Some piece)) new
IsPiece did old name (Err fault) new = IsChunkFault did old name fault new

-- a load of a key is one call of the shelf; a device is blamed only where it failed
abbrev pub LoadedOfFiles : {S : Type 0} → (did : S → Call → S → Type 0) → (failures : S → ℕ) → FileSource S → Digest → Result (List ℕ) ReadFault → FileSource S → Type 0
LoadedOfFiles did failures old key answer new =
    IsPiece did old.files.shelf key answer new.files.shelf × (answer ≡ Err Device → failures old.files.shelf < failures new.files.shelf)
    × (failures old.files.shelf ≤ failures new.files.shelf)

-- a load from a shelf that threads share: what the shelf was asked isn't known, but a chunk that is given has the name
abbrev pub LoadedOfShared : {S : Type 0} → S → Digest → Result (List ℕ) ReadFault → S → Type 0
LoadedOfShared old key (Ok bytes) new = (digest_of bytes ≡ key) × (new ≡ old)
LoadedOfShared old key (Err fault) new = new ≡ old
