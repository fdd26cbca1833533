use Rattle.std.proofs.Common.{drop, map}
use Rattle.chunk_reads.proofs.ReadInTurn.{ReadSoFar}
use Rattle.chunk_reads.proofs.readers.read_chunks.Given as goal

abbrev pub invariant-loop-name : goal.invariant-loop-name
invariant-loop-name g l = ReadSoFar g.N.ChunkReader.reads l.fn.reader l.reader (map (λ chunk. chunk.value) l.chunks.items) (drop l.name-index l.names) l.names
