-- Which faults a read may answer.
use Rattle.std.specs.Prelude.{◌≡◌}
use Rattle.host_names.specs.declared.digests.Digest.{Digest}
use Rattle.blob_store.specs.Calls.{Call, GetFails}
use Rattle.blob_store.specs.declared.shelves.ShelfFault.TheVariants as shelf_fault
use Rattle.blob_store.specs.declared.shelves.ShelfName.TheVariants.{Part}
use Rattle.chunk_reads.specs.declared.faults.ReadFault.{ReadFault}
use Rattle.chunk_reads.specs.declared.faults.ReadFault.TheVariants.{Device, OutOfMemory}

-- want of memory may always be answered, another fault where it is allowed for the key
abbrev pub MayAnswer : (allows : Digest → ReadFault → Type 0) → Digest → ReadFault → Type 0
MayAnswer allows key OutOfMemory = Unit {0}
MayAnswer allows key fault = ∥ allows key fault ∥₁

-- the device is blamed only if it failed at a get of the piece of this name, as `failed` says of that call
abbrev pub IsBlamedFor : (failed : Call → Type 0) → Digest → ReadFault → Type 0
IsBlamedFor failed key fault = fault ≡ Device → failed (GetFails (Part key) shelf_fault.Device)
