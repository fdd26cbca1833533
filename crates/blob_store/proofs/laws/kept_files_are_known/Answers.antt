use Rattle.host_names.specs.Digests.{digest_of}
use Rattle.blob_store.specs.Keeping.{Where}
use Rattle.blob_store.specs.declared.openings.OpenFault.TheVariants as open_fault
use Rattle.blob_store.proofs.Honest as honestly
use Rattle.blob_store.proofs.KeptOpen.{is_known, known_there, no_opening_stays, not_damaged, not_missing, opening_stays}
use Rattle.blob_store.proofs.laws.kept_files_are_known.Goals as goal

pub returns-clause-known : goal.returns-clause-known
returns-clause-known g c = λ honest has old new wanted one known file keeps so there small among named is.
    let did = g.S.Shelf.did in
    is_known (Where honest did) has keeps.kept file small old new wanted one known there among named (honestly.opened did honest has keeps old new wanted known so is)

pub returns-clause-there : goal.returns-clause-there
returns-clause-there g c = λ honest has old new wanted file keeps so there small fault.
    let did = g.S.Shelf.did in
    not_missing (Where honest did) has keeps.kept file small old new wanted there
    (honestly.open_stops did honest has keeps old new wanted (open_fault.MissingBlob (digest_of file)) so fault)

pub returns-clause-whole : goal.returns-clause-whole
returns-clause-whole g c = λ honest has old new wanted file keeps so there small fault.
    let did = g.S.Shelf.did in
    not_damaged (Where honest did) has keeps.kept file small old new wanted there
    (honestly.open_stops did honest has keeps old new wanted (open_fault.DamagedBlob (digest_of file)) so fault)

pub returns-clause-on_shelf : goal.returns-clause-on_shelf
returns-clause-on_shelf g c = λ honest has old new wanted known digest file keeps so is at.
    let did = g.S.Shelf.did in
    known_there (Where honest did) has keeps.kept old new wanted known (honestly.opened did honest has keeps old new wanted known so is) digest file at

pub returns-clause-stays : goal.returns-clause-stays
returns-clause-stays g c = λ honest has old new wanted known name keeps so is.
    let did = g.S.Shelf.did in
    opening_stays (Where honest did) has keeps.kept old new wanted known (honestly.opened did honest has keeps old new wanted known so is) name

pub returns-clause-stays_after_fault : goal.returns-clause-stays_after_fault
returns-clause-stays_after_fault g c = λ honest has old new wanted fault name keeps so stops.
    let did = g.S.Shelf.did in
    no_opening_stays (Where honest did) has keeps.kept old new wanted fault (honestly.open_stops did honest has keeps old new wanted fault so stops) name
