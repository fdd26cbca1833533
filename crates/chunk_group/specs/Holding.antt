-- Why threads can't hold a stretch of a file.
use Rattle.std.specs.Prelude.{◌≡◌, ◌⊎◌, ℕ, List, map, Contains}
use Rattle.host_names.specs.declared.digests.Digest.{Digest}
use Rattle.host_names.specs.Digests.{digest_of}
use Rattle.byte_view.specs.Cuts.{pieces_met}
use Rattle.chunk_reads.specs.declared.faults.ReadFault.{ReadFault}
use Rattle.chunk_reads.specs.declared.faults.ReadFault.TheVariants.{Damaged, OutOfMemory}
use Rattle.chunk_reads.specs.Reading.{HaveWrongLengths}
use Rattle.chunk_group.specs.Faults.{MayAnswer}

-- want of memory; a fault that may be answered for the name of one of its pieces; or some bytes have the name of a
-- piece and not its length
abbrev pub MayNotHold : (allows : Digest → ReadFault → Type 0) → List ℕ → (first last : ℕ) → ReadFault → Type 0
MayNotHold allows file first last why =
    (why ≡ OutOfMemory)
    ⊎ ((name : Digest) × Contains (map digest_of (pieces_met file first last)) name × MayAnswer allows name why)
    ⊎ ((why ≡ Damaged) × ((chunks : List (List ℕ)) × HaveWrongLengths chunks file first last))
