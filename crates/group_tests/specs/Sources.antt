-- What a source claims that has one chunk.
use Rattle.std.specs.Prelude.{◌≡◌, ◌≢◌, ℕ, List, Result, Ok, Err}
use Rattle.host_names.specs.declared.digests.Digest.{Digest}
use Rattle.host_names.specs.Digests.{digest_of}
use Rattle.chunk_reads.specs.declared.faults.ReadFault.{ReadFault}
use Rattle.chunk_reads.specs.declared.faults.ReadFault.TheVariants.{Damaged, Device, Missing, OutOfMemory}

-- it may lack the chunk of a key; none is damaged, and there is no device to fail
abbrev pub MayLack : Digest → ReadFault → Type 0
MayLack key Missing = Unit {0}
MayLack key fault = ⊥

-- for a key it gives these bytes where that is their name, and nothing where it isn't; or there was no memory
abbrev pub GivesAlone : List ℕ → Digest → Result (List ℕ) ReadFault → Type 0
GivesAlone bytes key (Ok chunk) = (chunk ≡ bytes) × (digest_of bytes ≡ key)
GivesAlone bytes key (Err Missing) = digest_of bytes ≢ key
GivesAlone bytes key (Err Damaged) = ⊥
GivesAlone bytes key (Err Device) = ⊥
GivesAlone bytes key (Err OutOfMemory) = Unit {0}
