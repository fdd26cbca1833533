use Rattle.std.specs.Prelude.{IfErr}
use Rattle.std.proofs.Common.{◌≡◌, ℕ, List, Result, rules, refl, inr, subst, sym, Err, None}
use Rattle.blob_store.specs.Calls.{Call, PutsFile}
use Rattle.blob_store.specs.Faults.{HasPutSome}
use Rattle.blob_store.specs.Files.{Store}
use Rattle.blob_store.specs.declared.blobs.UploadFault.{UploadFault}
use Rattle.blob_store.specs.declared.blobs.UploadFault.TheVariants.{OutOfMemory}
use Rattle.blob_store.proofs.Additions.{get_added}
use Rattle.blob_store.proofs.blobs.Blobs.upload.Goals as goal

-- a file is put whole, and then there is no memory to keep what is known of it
not_kept : {S A : Type 0} (did : S → Call → S → Type 0) (old : Store S) (file : List ℕ) (new : S) (result : Result A UploadFault)
    → PutsFile did old.known old.shelf file None new → result ≡ Err OutOfMemory → IfErr result (λ fault. HasPutSome did old.known old.shelf file fault new)
not_kept did old file new result put is = subst (λ r. IfErr r (λ fault. HasPutSome did old.known old.shelf file fault new)) (sym is) (inr (refl, put))

pub returns-in_err-kept-clause-not_put : goal.returns-in_err-kept-clause-not_put
returns-in_err-kept-clause-not_put g c =
    let put = subst (λ (s : Store _). PutsFile g.S.Shelf.did s.known s.shelf c.args.bytes.now None c.put.new.self.shelf) c.self.view_is c.in_ok-info.ensures.put in
    not_kept g.S.Shelf.did c.args.self.now c.args.bytes.now c.put.new.self.shelf c.from_residual-in_err-kept.result put (search rules)

pub returns-in_err-map_err-clause-not_put : goal.returns-in_err-map_err-clause-not_put
returns-in_err-map_err-clause-not_put g c =
    let put = subst (λ (s : Store _). PutsFile g.S.Shelf.did s.known s.shelf c.args.bytes.now None c.put.new.self.shelf) c.self.view_is c.in_ok-info.ensures.put in
    not_kept g.S.Shelf.did c.args.self.now c.args.bytes.now c.put.new.self.shelf c.from_residual-in_err-map_err.result put (search rules)

pub returns-clause-info : goal.returns-clause-info
returns-clause-info g c = get_added c.args.self.now.known c.keep.new.self c.args.bytes.now c.in_ok-info.info.value (search rules) (search rules) (search rules)

pub returns-clause-put : goal.returns-clause-put
returns-clause-put g c = λ none.
    subst (λ (s : Store _). PutsFile g.S.Shelf.did s.known s.shelf c.args.bytes.now None c.put.new.self.shelf) c.self.view_is c.in_ok-info.ensures.put
