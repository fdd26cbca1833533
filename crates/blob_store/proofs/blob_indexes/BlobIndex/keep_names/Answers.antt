use Rattle.std.proofs.Common.{◌≡◌, Some, option_map, sym, ap, ◌∙◌}
use Rattle.std.specs.FinMap as map
use Rattle.byte_view.specs.Cuts.{names_of}
use Rattle.blob_store.specs.Files.{stored}
use Rattle.blob_store.proofs.Stored.{get-stored, names_added}
use Rattle.blob_store.proofs.blob_indexes.BlobIndex.keep_names.Goals as goal

pub invariant_of-self : goal.invariant_of-self
invariant_of-self c =
    let entries = c.self.inside.files.entries in
    let known = stored (λ file. file.value) entries in
    let file = c.in-Some.info.now.value in
    let at : map.get known c.args.digest.now ≡ Some file = get-stored (λ file. file.value) entries c.args.digest.now ∙ ap (option_map (λ file. file.value)) (sym c.in-Some.ensures.value) in (
      c.self.invariant.0,
      names_added known c.args.digest.now file c.self.inside.pieces.names.keys c.names.result.now c.add.new.self.names.keys at (c.names.ensures ∙ ap names_of c.deref.ensures)
          c.add.ensures.added c.self.invariant.1,
    )
