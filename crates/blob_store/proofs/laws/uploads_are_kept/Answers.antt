use Rattle.std.proofs.Common.{None}
use Rattle.blob_store.proofs.Honest as honestly
use Rattle.blob_store.proofs.Kept.{file_put, still_there_after, there_after_fault}
use Rattle.blob_store.specs.Calls.{things_of}
use Rattle.blob_store.specs.Keeping.{Where}
use Rattle.blob_store.proofs.laws.uploads_are_kept.Goals as goal

pub returns-clause-uploaded : goal.returns-clause-uploaded
returns-clause-uploaded g c = λ honest has known old new file keeps so agree others there puts.
    let did = g.S.Shelf.did in
    file_put (Where honest did) has keeps.kept known old new file agree others there (honestly.puts_file did honest has keeps known old new file None so puts).1

pub returns-clause-stays : goal.returns-clause-stays
returns-clause-stays g c = λ honest has known old new file other keeps so agree puts there.
    let did = g.S.Shelf.did in
    still_there_after (Where honest did) has keeps.kept known old new (things_of file) other None agree (honestly.puts_file did honest has keeps known old new other None so puts).1 there

pub returns-clause-stays_after_fault : goal.returns-clause-stays_after_fault
returns-clause-stays_after_fault g c = λ honest has known old new file other fault keeps so agree puts there.
    let did = g.S.Shelf.did in
    there_after_fault (Where honest did) has keeps.kept known old new (things_of file) other fault agree (honestly.put_some did honest has keeps known old new other fault so puts).1 there
