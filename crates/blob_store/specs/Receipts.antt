-- What a call of a shelf is shown by.
use Rattle.std.specs.Prelude.{◌≡◌, ℕ, List, Some, None, ⊤, Contains}
use Rattle.blob_store.specs.declared.access_faults.AccessFault.{AccessFault}
use Rattle.blob_store.specs.declared.access_faults.AccessFault.TheVariants as access_fault
use Rattle.blob_store.specs.declared.shelves.ShelfName.{ShelfName}
use Rattle.blob_store.specs.declared.shelves.ShelfFault.{ShelfFault}
use Rattle.blob_store.specs.declared.shelves.ShelfFault.TheVariants as shelf_fault
use Rattle.blob_store.specs.declared.receipts.Found.{Found}
use Rattle.blob_store.specs.declared.receipts.Found.TheVariants as found
use Rattle.blob_store.specs.Calls.{Call, Put, PutFails, Got, things_of}

-- where nothing is found, the receipt has this of what it says
abbrev pub IsAbsent : {A X : Type 0} → (says : A → X) → X → Found A → Type 0
IsAbsent says it (found.Nothing receipt) = says receipt ≡ it
IsAbsent says it (found.Bytes bytes) = ⊤

-- a receipt is for these bytes under this name
abbrev pub IsFor : {P : Type 0} → (put_name : P → ShelfName) (put_bytes : P → List ℕ) → P → ShelfName → List ℕ → Type 0
IsFor put_name put_bytes receipt name bytes = (put_name receipt ≡ name) × (put_bytes receipt ≡ bytes)

-- a call that put bytes, or found nothing, has a receipt that says so; one that failed shows what `failed` says of it
abbrev pub IsShown : {P A : Type 0} → (says_put : P → ShelfName → List ℕ → Type 0) (says_absent : A → ShelfName → Type 0) (failed : Call → Type 0) → Call → Type 0
IsShown {P} says_put says_absent failed (Put name bytes) = (receipt : P) × says_put receipt name bytes
IsShown {P} {A} says_put says_absent failed (Got name None) = (receipt : A) × says_absent receipt name
IsShown says_put says_absent failed (Got name (Some bytes)) = ⊤
IsShown says_put says_absent failed call = failed call

-- ---- calls that failed

-- a fault as a shelf tells it: there the lack of a descriptor is a failure of the device
abbrev pub told_fault : AccessFault → ShelfFault
told_fault access_fault.OutOfMemory = shelf_fault.OutOfMemory
told_fault fault = shelf_fault.Device

-- the device failed at a put of one of the pieces of a file, or of its table, as `failed` says of that call
abbrev pub HasFailedPut : (failed : Call → Type 0) → (file : List ℕ) → Type 0
HasFailedPut failed file =
    (name : ShelfName) × (bytes : List ℕ) × Contains (things_of file) (name, bytes) × failed (PutFails name bytes shelf_fault.Device)
