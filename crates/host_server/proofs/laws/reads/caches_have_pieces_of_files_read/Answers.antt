use Rattle.blob_store.specs.Keeping.{Where}
use Rattle.host_server.proofs.HonestReads.{node_not_read, node_read}
use Rattle.host_server.proofs.StoredReads.{fault_adds, read_adds}
use Rattle.host_server.proofs.laws.reads.caches_have_pieces_of_files_read.Goals as goal

pub returns-clause-read : goal.returns-clause-read
returns-clause-read g c = λ honest has old new file content_type plan body keeps so there cached is.
    read_adds (Where honest g.S.Shelf.did) g.S.Shelf.failures has keeps.kept file old new content_type plan body there cached (node_read g.S.Shelf.did g.S.Shelf.failures honest has keeps old new file plan content_type body so is).1

pub returns-clause-fault : goal.returns-clause-fault
returns-clause-fault g c = λ honest has old new file plan fault keeps so there cached is. fault_adds (Where honest g.S.Shelf.did) g.S.Shelf.failures has keeps.kept file old new plan fault there cached (node_not_read g.S.Shelf.did g.S.Shelf.failures honest has keeps old new file plan fault so is).1
