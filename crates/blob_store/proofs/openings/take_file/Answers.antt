use Rattle.std.proofs.Common.{rules, ◌≡◌, Some}
use Rattle.byte_view.specs.Contents.{with_file}
use Rattle.blob_store.proofs.openings.take_file.Goals as goal

pub returns-in_ok-map_err-in-Ok-clause-taken : goal.returns-in_ok-map_err-in-Ok-clause-taken
returns-in_ok-map_err-in-Ok-clause-taken g c =
    let kept : c.keep.new.self ≡ with_file c.args.known.now c.in-Ok.info = search rules in
    (Some c.in-Ok.info, c.in-Ok.ensures.read, kept)
