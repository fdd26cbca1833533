use Rattle.std.proofs.Common.{rules, IfErr, Ok, Err, ◌≡◌, ◌∷◌, [], ◌++◌, length, sym, ap, ◌∙◌, arith}
use Rattle.std.proofs.lemmas.List.{length-append}
use Rattle.host_names.specs.Digests.{digest_of}
use Rattle.byte_view.specs.Cuts.{Follows, names_of}
use Rattle.byte_view.specs.declared.blob_builders.JoinFault.TheVariants.{OutOfMemory}
use Rattle.byte_view.proofs.NextPieces.{fits_by, follows_by, names-next}
use Rattle.byte_view.proofs.blob_builders.BlobBuilder.add.Goals as goal

pub returns-then-not-follows-clause-misfit : goal.returns-then-not-follows-clause-misfit
returns-then-not-follows-clause-misfit c e follows =
    let inside = c.self.inside in
    let size : inside.size ≡ length c.args.self.now = c.self.invariant.1 ∙ ap length c.self.view_is in
    let count : length c.bytes-bytes.result.now ≡ length c.args.chunk.now = ap length (c.bytes-bytes.ensures ∙ c.view.ensures) in
    cc (c.if-not-follows.ensures.1 (fits_by c.args.self.now c.args.chunk.now inside.size (length c.bytes-bytes.result.now) size count follows))

pub returns-clause-fits : goal.returns-clause-fits
returns-clause-fits c =
    let inside = c.self.inside in
    let size : inside.size ≡ length c.args.self.now = c.self.invariant.1 ∙ ap length c.self.view_is in
    let count : length c.bytes-bytes.result.now ≡ length c.args.chunk.now = ap length (c.bytes-bytes.ensures ∙ c.view.ensures) in
    follows_by c.args.self.now c.args.chunk.now inside.size (length c.bytes-bytes.result.now) size count (c.if-not-follows.ensures.0 (search rules))

pub invariant_of-self-2 : goal.invariant_of-self-2
invariant_of-self-2 c =
    let before = c.self.inside.contents.numbers in
    let bytes = c.bytes-bytes.result.now in
    let inv = c.self.invariant in
    let is : c.of.result.numbers ≡ before ++ bytes = c.of.ensures in
    let fits = c.if-not-follows.ensures.0 (search rules) in
    let sum = length-append before bytes in
    let long : length c.of.result.numbers ≡ length (before ++ bytes) = ap length is in
    let next = names-next before bytes (follows_by before bytes c.self.inside.size (length bytes) inv.1 (search rules) fits).0 in
    let pushed : c.push.new.self.items ≡ c.self.inside.names.items ++ c.name.result ∷ [] = search rules in
    let named : c.name.result ≡ digest_of bytes = c.name.ensures ∙ ap digest_of (sym (c.bytes-bytes.ensures ∙ c.view.ensures)) in (
      rw is (c.update.ensures before inv.0),
      omega (arith, long, sum, inv.1),
      fits.3,
      pushed ∙ ap (λ n. c.self.inside.names.items ++ n ∷ []) named ∙ ap (λ l. l ++ digest_of bytes ∷ []) inv.3 ∙ sym next ∙ ap names_of (sym is),
    )

pub returns-in_err-map_err-clause-memory : goal.returns-in_err-map_err-clause-memory
returns-in_err-map_err-clause-memory c =
    let inside = c.self.inside in
    let size : inside.size ≡ length c.args.self.now = c.self.invariant.1 ∙ ap length c.self.view_is in
    let count : length c.bytes-bytes.result.now ≡ length c.args.chunk.now = ap length (c.bytes-bytes.ensures ∙ c.view.ensures) in
    let follows : Follows c.args.self.now c.args.chunk.now = follows_by c.args.self.now c.args.chunk.now inside.size (length c.bytes-bytes.result.now) size count (c.if-not-follows.ensures.0 (search rules)) in
    elim c.from_residual.result as (λ r. IfErr r (λ fault. fault ≡ OutOfMemory → Follows c.args.self.now c.args.chunk.now)) [
      | Ok value ↦ tt
      | Err fault ↦ λ memory. follows
    ]
