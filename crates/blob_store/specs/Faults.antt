-- What a fault tells of the shelf.
use Rattle.std.specs.Prelude.{◌≡◌, ◌≢◌, ◌⊎◌, List, ℕ, Some, None}
use Rattle.host_names.specs.declared.digests.Digest.{Digest}
use Rattle.host_names.specs.Digests.{digest_of}
use Rattle.byte_view.specs.Contents.{Contents}
use Rattle.blob_store.specs.declared.shelves.ShelfName.TheVariants.{Part}
use Rattle.blob_store.specs.declared.shelves.ShelfFault.TheVariants as shelf_fault
use Rattle.blob_store.specs.declared.blobs.UploadFault.{UploadFault}
use Rattle.blob_store.specs.declared.blobs.UploadFault.TheVariants as upload_fault
use Rattle.chunk_reads.specs.declared.faults.ReadFault.{ReadFault}
use Rattle.chunk_reads.specs.declared.faults.ReadFault.TheVariants as read_fault
use Rattle.blob_store.specs.Calls.{Call, Got, GetFails, PutsFile}

-- what was put where a file can't be: of one that is too large nothing; up to a fault of the device; without memory none of it, or up to
-- where the shelf had none
abbrev pub HasPutPart : {S : Type 0} → (did : S → Call → S → Type 0) → Contents → S → List ℕ → UploadFault → S → Type 0
HasPutPart did known old file upload_fault.TooLarge new = new ≡ old
HasPutPart did known old file upload_fault.Device new = PutsFile did known old file (Some shelf_fault.Device) new
HasPutPart did known old file upload_fault.OutOfMemory new = (new ≡ old) ⊎ PutsFile did known old file (Some shelf_fault.OutOfMemory) new

-- what was put where a file can't be, or can't be known: that; or all of it, and then there was no memory to keep what is known of it
abbrev pub HasPutSome : {S : Type 0} → (did : S → Call → S → Type 0) → Contents → S → List ℕ → UploadFault → S → Type 0
HasPutSome did known old file why new = HasPutPart did known old file why new ⊎ ((why ≡ upload_fault.OutOfMemory) × PutsFile did known old file None new)

-- a fault at a chunk, and the answer of the one call that it comes from
abbrev pub IsChunkFault : {S : Type 0} → (did : S → Call → S → Type 0) → S → Digest → ReadFault → S → Type 0
IsChunkFault did old name read_fault.Missing new = did old (Got (Part name) None) new
IsChunkFault did old name read_fault.Damaged new = (bytes : List ℕ) × (digest_of bytes ≢ name) × did old (Got (Part name) (Some bytes)) new
IsChunkFault did old name read_fault.Device new = did old (GetFails (Part name) shelf_fault.Device) new
IsChunkFault did old name read_fault.OutOfMemory new = did old (GetFails (Part name) shelf_fault.OutOfMemory) new
