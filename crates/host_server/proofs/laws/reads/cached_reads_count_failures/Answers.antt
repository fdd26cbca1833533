use Rattle.host_server.proofs.StoredReads.{fault_counts, fault_goes_on, read_goes_on}
use Rattle.host_server.proofs.laws.reads.cached_reads_count_failures.Goals as goal

pub returns-clause-read : goal.returns-clause-read
returns-clause-read g c = λ old new file content_type plan body is. read_goes_on g.S.Shelf.did g.S.Shelf.failures old new file content_type plan body is

pub returns-clause-fault : goal.returns-clause-fault
returns-clause-fault g c = λ old new file plan fault is. fault_goes_on g.S.Shelf.did g.S.Shelf.failures old new file plan fault is

pub returns-clause-device : goal.returns-clause-device
returns-clause-device g c = λ old new file plan is. fault_counts g.S.Shelf.did g.S.Shelf.failures old new file plan is
