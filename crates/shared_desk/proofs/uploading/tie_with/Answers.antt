use Rattle.std.proofs.Common.{rules, ◌≡◌, IsSome, subst, sym}
use Rattle.std.specs.FinMap as map
use Rattle.byte_view.specs.Contents.{Contents, with_file}
use Rattle.host_names.specs.Digests.{digest_of}
use Rattle.site_desk.proofs.AddedFiles.{added_is_known}
use Rattle.shared_desk.proofs.uploading.tie_with.Goals as goal

pub returns-in-Ok-clause-known : goal.returns-in-Ok-clause-known
returns-in-Ok-clause-known g c =
    let bytes = c.args.file.info.value in
    let is : c.tie.result ≡ with_file c.args.stock.now bytes = search rules in
    subst (λ (files : Contents). IsSome (map.get files (digest_of bytes))) (sym is) (added_is_known c.args.stock.now bytes)
