use Rattle.std.proofs.Common.{rules, ◌≡◌, inr, None, Result, Err, IfErr, refl, sym, ap, subst, ◌∙◌}
use Rattle.std.specs.FinMap as map
use Rattle.host_names.specs.Digests.{digest_of}
use Rattle.byte_view.specs.Contents.{Contents}
use Rattle.blob_store.specs.Calls.{PutsFile}
use Rattle.blob_store.specs.declared.blobs.UploadFault.{UploadFault}
use Rattle.blob_store.specs.declared.blobs.UploadFault.TheVariants as fault
use Rattle.host_api.specs.declared.refusals.Refusal.{Refusal}
use Rattle.host_api.specs.declared.refusals.Refusal.TheVariants as reason
use Rattle.host_server.specs.Storing.{IsNotStored, refusal_of_upload}
use Rattle.host_server.proofs.servers.Server.keep.Goals as goal

pub returns-in_err-keep-clause-refused : goal.returns-in_err-keep-clause-refused
returns-in_err-keep-clause-refused g c =
    let uploads = c.args.self.now.house.uploads in
    let P : Result (Unit {0}) Refusal → Type 0 = λ r. IfErr r (λ why. (x : UploadFault)
    × IsNotStored g.S.Shelf.did g.S.Shelf.failures uploads c.args.self.now.files.shelf c.args.bytes.now x c.put.new.self.shelf × (why ≡ refusal_of_upload x)) in
    let is : c.from_residual.result ≡ Err reason.OutOfMemory = search rules in
    let put = subst (λ s. PutsFile g.S.Shelf.did uploads s c.args.bytes.now None c.put.new.self.shelf) c.files_mut.ensures.value
    (subst (λ (known : Contents). PutsFile g.S.Shelf.did known c.files_mut.result.now.shelf c.args.bytes.now None c.put.new.self.shelf) c.uploads-known.ensures c.in-Ok.ensures.put) in
    subst P (sym is) (
      fault.OutOfMemory,
      record {
        large = (λ e. absurd (cc e), λ long. absurd (cc (c.in-Ok.ensures.large.1 long)));
        unknown = λ small. sym (ap (λ bytes. map.get uploads (digest_of bytes)) c.in-Ok.ensures.info) ∙ c.in_err-keep.ensures.unknown;
        failed = λ e. absurd (cc e);
        put = inr (refl, put);
      },
      refl,
    )

pub returns-clause-stored : goal.returns-clause-stored
returns-clause-stored g c =
    let old = c.args.self.now.files.shelf in
    let put : PutsFile g.S.Shelf.did c.args.self.now.house.uploads old c.args.bytes.now None c.put.new.self.shelf =
    subst (λ s. PutsFile g.S.Shelf.did c.args.self.now.house.uploads s c.args.bytes.now None c.put.new.self.shelf) c.files_mut.ensures.value
    (subst (λ (known : Contents). PutsFile g.S.Shelf.did known c.files_mut.result.now.shelf c.args.bytes.now None c.put.new.self.shelf) c.uploads-known.ensures c.in-Ok.ensures.put) in
    search (rules, put)
