-- What a shelf is called for and answers, and what a shelf in memory has.
use Rattle.std.specs.Prelude.{◌≡◌, ◌≢◌, ℕ, List, Option, Some, option_map}
use Rattle.std.specs.BTreeMap.{get}
use Rattle.host_names.specs.Digests.{digest_cmp}
use Rattle.blob_store.specs.declared.shelves.ShelfName.{ShelfName}
use Rattle.blob_store.specs.declared.shelves.ShelfName.TheVariants.{Part, Table}
use Rattle.blob_store.specs.declared.shelves.ShelfFault.TheVariants.{OutOfMemory}
use Rattle.blob_store.specs.declared.mem_shelf.MemShelf.{MemShelf}
use Rattle.blob_store.specs.Calls.{Call, Put, PutFails, Got, GetFails}

-- the bytes that it has under a name
abbrev pub found_in : MemShelf → ShelfName → Option (List ℕ)
found_in shelf (Part name) = option_map (λ bytes. bytes.items) (get digest_cmp shelf.parts name)
found_in shelf (Table digest) = option_map (λ bytes. bytes.items) (get digest_cmp shelf.tables digest)

-- it has these bytes under a name now, and under each other name what it had
pub record IsPutAt (old new : MemShelf) (name : ShelfName) (bytes : List ℕ) : Type 0 where
  pub here : found_in new name ≡ Some bytes
  pub others : (other : ShelfName) → other ≢ name → found_in new other ≡ found_in old other

-- it has what it had
abbrev pub HasTheSame : MemShelf → MemShelf → Type 0
HasTheSame old new = (name : ShelfName) → found_in new name ≡ found_in old name

-- what a call does, and that it gives what is found; it fails for want of memory alone
abbrev pub Does : MemShelf → Call → MemShelf → Type 0
Does old (Put name bytes) new = IsPutAt old new name bytes
Does old (PutFails name bytes fault) new = (fault ≡ OutOfMemory) × HasTheSame old new
Does old (Got name answer) new = (answer ≡ found_in old name) × HasTheSame old new
Does old (GetFails name fault) new = (fault ≡ OutOfMemory) × HasTheSame old new
