-- Chunks that are taken in turn.
use Rattle.std.specs.Prelude.{◌≡◌, ◌≢◌, ◌⊎◌, ℕ, List, [], ◌∷◌, Option, Some, None, Result, Ok, Err}
use Rattle.host_names.specs.Digests.{digest_of}
use Rattle.host_names.specs.declared.digests.Digest.{Digest}
use Rattle.byte_view.specs.Holds.{Held}
use Rattle.chunk_reads.specs.declared.faults.ReadFault.{ReadFault}
use Rattle.chunk_reads.specs.declared.faults.ReadFault.TheVariants.{OutOfMemory}
use Rattle.chunk_reads.specs.Reading.{IsNotHeld, ReadsInTurn}

-- the chunks that are left to be taken, and the name of the one that was missed
pub record Taking : Type 0 where
  pub left : List (List ℕ)
  pub missed : Option Digest

-- these chunks, none of which was taken yet
abbrev pub taking : List (List ℕ) → Taking
taking chunks = record { left = chunks; missed = None }

-- the next of these chunks has another name, or there is none
abbrev pub IsNotNext : Digest → List (List ℕ) → Type 0
IsNotNext name [] = Unit {0}
IsNotNext name (chunk ∷ chunks) = digest_of chunk ≢ name

-- the next chunk is taken; or it has another name, or there is none: that name is missed; or there is no memory for it
abbrev pub Takes : Taking → Digest → Result (List ℕ) ReadFault → Taking → Type 0
Takes old name (Ok chunk) new = old ≡ record { left = chunk ∷ new.left; missed = new.missed }
Takes old name (Err why) new = ((why ≡ OutOfMemory) × (new ≡ old)) ⊎ (IsNotNext name old.left × (new ≡ record { left = old.left; missed = Some name }))

-- a hold is given of the next chunks
abbrev pub Gives : Taking → Held → Taking → Type 0
Gives old hold new = ReadsInTurn Takes old hold.chunks new

-- a stretch of a file can't be held with the next chunks
abbrev pub GivesNot : Taking → List ℕ → ℕ → ℕ → ReadFault → Taking → Type 0
GivesNot = IsNotHeld Takes
