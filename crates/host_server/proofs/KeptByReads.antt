-- What holds of a node before a file is read, and is kept by each read of a chunk, holds after it.
use Rattle.std.proofs.Common.{ℕ, List, Result, Ok, Err, map}
use Rattle.std.specs.List.{AllByRecursion}
use Rattle.host_names.specs.declared.digests.Digest.{Digest}
use Rattle.host_names.specs.Digests.{digest_of}
use Rattle.byte_view.specs.Cuts.{IsPure, pieces_met}
use Rattle.range_spec.specs.declared.selection.Choice.{Choice}
use Rattle.chunk_reads.proofs.Turns as turns
use Rattle.chunk_reads.specs.Reading.{HaveWrongLengths, Reads, ReadsInTurn}
use Rattle.chunk_reads.specs.declared.faults.ReadFault.{ReadFault}
use Rattle.chunk_reads.specs.declared.faults.ReadFault.TheVariants.{Damaged, OutOfMemory}
use Rattle.range_reply.proofs.Passing.{fault_passes, read_exact, read_passes}
use Rattle.range_reply.specs.Sending.{IsExact, IsNotRead, IsRead}
use Rattle.range_reply.specs.Sending.{SentFile}

-- `Asked` holds of each name that is asked for where the file is read
module _ {N : Type 0} (reads : Reads N) (file : List ℕ) (Asked : Digest → Type 0) (asked : (first last : ℕ) → AllByRecursion Asked (map digest_of (pieces_met file first last)))
    (Inv : N → Type 0) (of_read : (old new : N) (name : Digest) (answer : Result (List ℕ) ReadFault) → Asked name → Inv old → reads old name answer new → Inv new) where
  pub read_keeps : (old new : N) (content_type : List ℕ) (plan : Choice) (body : SentFile) → Inv old → IsRead (turns.Gave reads) old file plan content_type body new → Inv new
  read_keeps old new content_type plan body inv is = read_passes (turns.Gave reads) file Inv (turns.of_gave reads file Asked asked Inv of_read) old new content_type plan body inv is

  module _ (Stop : ReadFault → N → Type 0) (of_fault : (old new : N) (name : Digest) (why : ReadFault) → Asked name → Inv old → reads old name (Err why) new → Stop why new)
      (of_none : (new : N) → Inv new → Stop OutOfMemory new)
      (of_wrong : (old new : N) (chunks : List (List ℕ)) (first last : ℕ) → Inv old → Inv new → HaveWrongLengths chunks file first last → ReadsInTurn reads old chunks new
      → Stop Damaged new)
    where
      pub fault_keeps : (old new : N) (plan : Choice) (why : ReadFault) → Inv old → IsNotRead (turns.Gave reads) (turns.Failed reads) old file plan why new → Stop why new
      fault_keeps old new plan why inv is = fault_passes (turns.Gave reads) file Inv (turns.of_gave reads file Asked asked Inv of_read) (turns.Failed reads) Stop (turns.of_failed reads file Asked asked Inv of_read Stop of_fault of_none of_wrong) of_none old new plan why inv is

  module _ (of_chunk : (old new : N) (chunk : List ℕ) → Inv old → reads old (digest_of chunk) (Ok chunk) new → IsPure file chunk) where
    pub exact_keeps : (old new : N) (content_type : List ℕ) (plan : Choice) (body : SentFile) → Inv old → IsRead (turns.Gave reads) old file plan content_type body new
        → IsExact file plan content_type body
    exact_keeps old new content_type plan body inv is = read_exact (turns.Gave reads) file Inv (turns.of_gave reads file Asked asked Inv of_read) (turns.of_pure reads file Asked asked Inv of_read of_chunk) old new content_type plan body inv is
