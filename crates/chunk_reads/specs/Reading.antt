-- Stretches of files whose chunks are read one after another.
use Rattle.std.specs.Prelude.{◌≡◌, ◌≢◌, ◌⊎◌, ℕ, List, [], ◌∷◌, ◌++◌, Result, Ok, Err, length, map}
use Rattle.host_names.specs.declared.digests.Digest.{Digest}
use Rattle.host_names.specs.Digests.{digest_of}
use Rattle.byte_view.specs.Cuts.{pieces_met}
use Rattle.chunk_reads.specs.declared.faults.ReadFault.{ReadFault}
use Rattle.chunk_reads.specs.declared.faults.ReadFault.TheVariants.{Damaged, OutOfMemory}

-- what a read of a name, with its answer, leads from and to
abbrev pub Reads : Type 0 → Type 1
Reads N = N → Digest → Result (List ℕ) ReadFault → N → Type 0

-- chunks are read under their names one after another, and nothing else is done
abbrev pub ReadsInTurn : {N : Type 0} → Reads N → N → List (List ℕ) → N → Type 0
ReadsInTurn reads old [] new = new ≡ old
ReadsInTurn {N} reads old (chunk ∷ chunks) new = (mid : N) × reads old (digest_of chunk) (Ok chunk) mid × ReadsInTurn reads mid chunks new

-- chunks of the first of these names are read, and the others are left
abbrev pub ReadsSome : {N : Type 0} → Reads N → N → List Digest → List Digest → N → Type 0
ReadsSome reads old names left new = (chunks : List (List ℕ)) × (map digest_of chunks ++ left ≡ names) × ReadsInTurn reads old chunks new

-- why the chunks of these names can't be read: the next one can't, after those before it; or there was no memory to keep the last of those
-- that were read
abbrev pub AreNotRead : {N : Type 0} → Reads N → N → List Digest → ReadFault → N → Type 0
AreNotRead {N} reads old names why new =
    ((mid : N) × (name : Digest) × (left : List Digest) × ReadsSome reads old names (name ∷ left) mid × reads mid name (Err why) new)
    ⊎ ((why ≡ OutOfMemory) × ((left : List Digest) × (left ≢ names) × ReadsSome reads old names left new))

-- the chunks have the names of the pieces that the stretch meets, and one is not as long as its piece
pub record HaveWrongLengths (chunks : List (List ℕ)) (file : List ℕ) (first last : ℕ) : Type 0 where
  pub named : map digest_of chunks ≡ map digest_of (pieces_met file first last)
  pub wrong : map length chunks ≢ map length (pieces_met file first last)

-- why a stretch of a file can't be held, from its first to its last byte: its chunks can't be read; or one isn't as long as its piece
abbrev pub IsNotHeld : {N : Type 0} → Reads N → N → List ℕ → (first last : ℕ) → ReadFault → N → Type 0
IsNotHeld reads old file first last why new =
    AreNotRead reads old (map digest_of (pieces_met file first last)) why new
    ⊎ ((why ≡ Damaged) × ((chunks : List (List ℕ)) × HaveWrongLengths chunks file first last × ReadsInTurn reads old chunks new))

-- ---- what private functions say

-- the chunk of a name is read, and put behind those before it
abbrev pub IsNextChunk : {N : Type 0} → Reads N → N → Digest → (before after : List (List ℕ)) → N → Type 0
IsNextChunk reads old name before after new = (chunk : List ℕ) × (name ≡ digest_of chunk) × (after ≡ before ++ chunk ∷ []) × reads old name (Ok chunk) new

-- why it isn't
abbrev pub IsNoNextChunk : {N : Type 0} → Reads N → N → Digest → ReadFault → N → Type 0
IsNoNextChunk reads old name why new =
    reads old name (Err why) new ⊎ ((why ≡ OutOfMemory) × ((chunk : List ℕ) × (name ≡ digest_of chunk) × reads old name (Ok chunk) new))
