use Rattle.std.proofs.Common.{rules, ◌≡◌, None, Err, subst}
use Rattle.std.specs.FinMap as map
use Rattle.byte_view.specs.Contents.{Contents}
use Rattle.blob_store.specs.Calls.{PutsFile}
use Rattle.blob_store.specs.Faults.{HasPutPart}
use Rattle.shared_desk.proofs.uploading.put.Goals as goal

pub returns-clause-put : goal.returns-clause-put
returns-clause-put g c =
    let bytes = c.args.bytes.now in
    let did = g.S.Shelf.did in
    let none : c.new.result ≡ map.empty = search rules in
    let before : c.new-files.result.shelf ≡ c.of-before.result.value = search rules in
    let after : c.put-2.new.self.shelf ≡ c.of.result.value = search rules in
    subst (λ (shelf : g.row.S.Denot). PutsFile did map.empty c.of-before.result.value bytes None shelf) after
    (subst (λ (shelf : g.row.S.Denot). PutsFile did map.empty shelf bytes None c.put-2.new.self.shelf) before
    (subst (λ (known : Contents). PutsFile did known c.new-files.result.shelf bytes None c.put-2.new.self.shelf) none c.in_ok-info.ensures.put))

pub returns-in_err-info-clause-not_put : goal.returns-in_err-info-clause-not_put
returns-in_err-info-clause-not_put g c =
    let why = c.in_err-info.field-0.0 in
    let is : c.from_residual.result ≡ Err why = search rules in
    let none : c.new.result ≡ map.empty = search rules in
    let put = subst (λ (known : Contents). HasPutPart g.S.Shelf.did known c.new-files.result.shelf c.args.bytes.now why c.put-2.new.self.shelf) none c.in_err-info.ensures.not_put in
    rw is (c.new-files.result.shelf, c.put-2.new.self.shelf, put)
