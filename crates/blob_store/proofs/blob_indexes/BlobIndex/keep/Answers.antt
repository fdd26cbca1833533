use Rattle.std.proofs.Common.{rules, ◌≡◌, refl, sym, ap, subst, ◌∙◌}
use Rattle.host_names.specs.Digests.{digest_of}
use Rattle.byte_view.specs.Contents.{AreDigested, Contents}
use Rattle.blob_store.specs.Calls.{AreKnownNames}
use Rattle.blob_store.specs.Files.{stored}
use Rattle.blob_store.proofs.Stored.{names_with_file, new_file}
use Rattle.host_names.specs.declared.digests.Digest.{Digest}
use Rattle.blob_store.proofs.blob_indexes.BlobIndex.keep.Goals as goal

pub invariant_of-self : goal.invariant_of-self
invariant_of-self c =
    let keys = c.self.inside.pieces.names.keys in
    let old = c.self.inside.files.entries in
    let new = c.insert.new.self.entries in
    let same : new ≡ old = c.in_err-insert.ensures.err in
    let files : stored (λ file. file.value) old ≡ stored (λ file. file.value) new = ap (stored (λ file. file.value)) (sym same) in
    (subst AreDigested files c.self.invariant.0, subst (λ (known : Contents). AreKnownNames known keys) files c.self.invariant.1)

pub invariant_of-self-2 : goal.invariant_of-self-2
invariant_of-self-2 c =
    let more = new_file (λ file. file.value) c.self.inside.files.entries c.insert.new.self.entries c.args.self.now c.digest-digest.result c.args.file.value c.args.file
    c.self.view_is c.self.invariant.0 (ap (λ (d : Digest). d.0) (c.digest-digest.ensures ∙ ap digest_of c.deref.ensures)) refl (search rules) c.in_ok-insert.ensures.updates.0 in
    let Names : Contents → Type 0 = λ known. AreKnownNames known c.self.inside.pieces.names.keys in
    (more.1, subst Names (sym more.0) (names_with_file c.args.self.now c.args.file.value c.self.inside.pieces.names.keys (subst Names c.self.view_is c.self.invariant.1)))

pub returns-clause-ok : goal.returns-clause-ok
returns-clause-ok c =
    let more = new_file (λ file. file.value) c.self.inside.files.entries c.insert.new.self.entries c.args.self.now c.digest-digest.result c.args.file.value c.args.file
    c.self.view_is c.self.invariant.0 (ap (λ (d : Digest). d.0) (c.digest-digest.ensures ∙ ap digest_of c.deref.ensures)) refl (search rules) c.in_ok-insert.ensures.updates.0 in
    search (rules, more.0)
