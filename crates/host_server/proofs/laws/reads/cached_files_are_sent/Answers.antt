use Rattle.blob_store.specs.Keeping.{Where}
use Rattle.host_server.proofs.HonestReads.{node_not_read, node_read}
use Rattle.host_server.proofs.StoredReads.{fault_has_cached, fault_stays, fault_why, read_has_cached, read_stays, sent_exact}
use Rattle.host_server.proofs.laws.reads.cached_files_are_sent.Goals as goal

pub returns-clause-exact : goal.returns-clause-exact
returns-clause-exact g c = λ honest has old new file content_type plan body keeps so there cached is.
    sent_exact (Where honest g.S.Shelf.did) g.S.Shelf.failures has keeps.kept file old new content_type plan body there cached (node_read g.S.Shelf.did g.S.Shelf.failures honest has keeps old new file plan content_type body so is).1

pub returns-clause-fault : goal.returns-clause-fault
returns-clause-fault g c = λ honest has old new file plan fault keeps so there cached is. fault_why (Where honest g.S.Shelf.did) g.S.Shelf.failures has keeps.kept file old new plan fault there cached (node_not_read g.S.Shelf.did g.S.Shelf.failures honest has keeps old new file plan fault so is).1

pub returns-clause-stays : goal.returns-clause-stays
returns-clause-stays g c = λ honest has old new file content_type plan body name keeps so is.
    read_stays (Where honest g.S.Shelf.did) g.S.Shelf.failures has keeps.kept old new file content_type plan body (node_read g.S.Shelf.did g.S.Shelf.failures honest has keeps old new file plan content_type body so is).1 name

pub returns-clause-stays_after_fault : goal.returns-clause-stays_after_fault
returns-clause-stays_after_fault g c = λ honest has old new file plan fault name keeps so is. fault_stays (Where honest g.S.Shelf.did) g.S.Shelf.failures has keeps.kept old new file plan fault (node_not_read g.S.Shelf.did g.S.Shelf.failures honest has keeps old new file plan fault so is).1 name

pub returns-clause-cached : goal.returns-clause-cached
returns-clause-cached g c = λ honest has old new file content_type plan body keeps so there cached is.
    read_has_cached (Where honest g.S.Shelf.did) g.S.Shelf.failures has keeps.kept file old new content_type plan body there cached (node_read g.S.Shelf.did g.S.Shelf.failures honest has keeps old new file plan content_type body so is).1

pub returns-clause-cached_after_fault : goal.returns-clause-cached_after_fault
returns-clause-cached_after_fault g c = λ honest has old new file plan fault keeps so there cached is.
    fault_has_cached (Where honest g.S.Shelf.did) g.S.Shelf.failures has keeps.kept file old new plan fault there cached (node_not_read g.S.Shelf.did g.S.Shelf.failures honest has keeps old new file plan fault so is).1
