use Rattle.std.proofs.Common.{◌≡◌, None, Some, ap, sym, subst, ◌∙◌}
use Rattle.std.specs.FinMap as map
use Rattle.chunk_lru.specs.Caches.{Cache}
use Rattle.byte_view.specs.Contents.{Contents}
use Rattle.host_names.specs.Digests.{digest_cmp}
use Rattle.chunk_group.specs.Cached.{AllCached}
use Rattle.host_server.specs.ReadBack.{IsKnownPiece, IsReadBack}
use Rattle.host_replies.specs.Replies.{Answer}
use Rattle.host_server.proofs.ExactReads.{answered_back}
use Rattle.host_server.proofs.Honest.{answered}
use Rattle.host_server.proofs.KnownFiles.{answered_known}
use Rattle.host_server.proofs.ReadBacks.{opened_known, served_back, was_honest}
use Rattle.blob_store.specs.Keeping.{Where}
use Rattle.host_server.proofs.Refuted.{not_damaged, not_missing}
use Rattle.host_server.proofs.laws.uploads.uploads_are_read_back.Goals as goal

pub returns-clause-empty : goal.returns-clause-empty
returns-clause-empty g c = λ has server limit none nothing. record {
  on_shelf = λ digest file at.
      let wrong : None ≡ Some file = sym (map.get-empty digest_cmp digest) ∙ ap (λ (u : Contents). map.get u digest) (sym none) ∙ at in
      absurd (cc wrong);
  cached = subst (λ (c : Cache). AllCached (IsKnownPiece server.house.uploads) c) (sym nothing) (tt, tt);
}

pub returns-clause-opened : goal.returns-clause-opened
returns-clause-opened g c = λ honest has first second shelf limit server keeps so is.
    opened_known g.S.Shelf.did g.S.Shelf.failures honest has keeps first second shelf limit server so is

pub returns-clause-kept : goal.returns-clause-kept
returns-clause-kept g c = λ honest has old new parts body answer keeps so agrees known is.
    let did = g.S.Shelf.did in
    let failures = g.S.Shelf.failures in
    let disk = g.D.Disk in
    answered_known (Where honest did) failures has keeps.kept old new parts body answer agrees known (answered did failures honest has keeps old new so parts body answer is).1

pub returns-clause-read : goal.returns-clause-read
returns-clause-read g c = λ honest has old new parts body answer site version path file keeps so known asks there is.
    let did = g.S.Shelf.did in
    let failures = g.S.Shelf.failures in
    let disk = g.D.Disk in
    answered_back (Where honest did) failures has keeps.kept old new parts body answer site version path file known asks there
    (answered did failures honest has keeps old new so parts body answer is).1

pub returns-clause-there : goal.returns-clause-there
returns-clause-there g c honest has old new parts body answer site version path file keeps so known asks there is told =
    let did = g.S.Shelf.did in
    let failures = g.S.Shelf.failures in
    let disk = g.D.Disk in
    not_missing parts path file (subst (λ (a : Answer). IsReadBack parts path file a) told
    (answered_back (Where honest did) failures has keeps.kept old new parts body answer site version path file known asks there
    (answered did failures honest has keeps old new so parts body answer is).1))

pub returns-clause-whole : goal.returns-clause-whole
returns-clause-whole g c honest has old new parts body answer site version path file keeps so known asks there is told =
    let did = g.S.Shelf.did in
    let failures = g.S.Shelf.failures in
    let disk = g.D.Disk in
    not_damaged parts path file (subst (λ (a : Answer). IsReadBack parts path file a) told
    (answered_back (Where honest did) failures has keeps.kept old new parts body answer site version path file known asks there
    (answered did failures honest has keeps old new so parts body answer is).1))

pub returns-clause-before : goal.returns-clause-before
returns-clause-before g c = λ honest has number old new stream left replies keeps so served.
    was_honest g.S.Shelf.did g.S.Shelf.failures honest has keeps number old stream replies new left so served

pub returns-clause-connection : goal.returns-clause-connection
returns-clause-connection g c = λ honest has number old new stream left replies keeps so known served.
    (served_back g.S.Shelf.did g.S.Shelf.failures honest has keeps number old stream replies new left so served).1 known
