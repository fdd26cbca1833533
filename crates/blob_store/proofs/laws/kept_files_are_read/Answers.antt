use Rattle.chunk_reads.specs.declared.faults.ReadFault.TheVariants as read_fault
use Rattle.host_names.specs.Digests.{digest_of}
use Rattle.blob_store.proofs.Honest as honestly
use Rattle.blob_store.proofs.Kept.{file_given, file_not_damaged, file_not_missing, piece_given, piece_not_damaged, piece_not_missing}
use Rattle.blob_store.specs.Keeping.{Where}
use Rattle.blob_store.proofs.laws.kept_files_are_read.Goals as goal

pub returns-clause-piece : goal.returns-clause-piece
returns-clause-piece g c = λ honest has old new file piece chunk keeps so there among got.
    piece_given (Where honest g.S.Shelf.did) has keeps.kept old file there new piece chunk among (got, so)

pub returns-clause-piece_there : goal.returns-clause-piece_there
returns-clause-piece_there g c = λ honest has old new file piece keeps so there among fault.
    let did = g.S.Shelf.did in
    piece_not_missing (Where honest did) has keeps.kept old file there new piece among (honestly.chunk did honest has keeps old new (digest_of piece) read_fault.Missing so fault).1

pub returns-clause-piece_whole : goal.returns-clause-piece_whole
returns-clause-piece_whole g c = λ honest has old new file piece keeps so there among fault.
    let did = g.S.Shelf.did in
    piece_not_damaged (Where honest did) has keeps.kept old file there new piece among (honestly.chunk did honest has keeps old new (digest_of piece) read_fault.Damaged so fault).1

pub returns-clause-file : goal.returns-clause-file
returns-clause-file g c = λ honest has old new file read keeps so there is.
    let did = g.S.Shelf.did in
    file_given (Where honest did) has keeps.kept old file there new read (honestly.file_read did honest has keeps old new (digest_of file) read so is).1

pub returns-clause-file_there : goal.returns-clause-file_there
returns-clause-file_there g c = λ honest has old new file keeps so there fault.
    let did = g.S.Shelf.did in
    file_not_missing (Where honest did) has keeps.kept old file there new (honestly.file_fault did honest has keeps old new (digest_of file) read_fault.Missing so fault).1

pub returns-clause-file_whole : goal.returns-clause-file_whole
returns-clause-file_whole g c = λ honest has old new file keeps so there small fault.
    let did = g.S.Shelf.did in
    file_not_damaged (Where honest did) has keeps.kept old file there new small (honestly.file_fault did honest has keeps old new (digest_of file) read_fault.Damaged so fault).1
