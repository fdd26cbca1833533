use Rattle.std.proofs.Common.{sym, ap, ◌∙◌}
use Rattle.std.specs.FinMap as map
use Rattle.blob_store.proofs.Stored.{len-stored}
use Rattle.blob_store.proofs.blob_indexes.BlobIndex.len.Goals as goal

pub returns : goal.returns
returns c = c.len.ensures.len ∙ sym (len-stored (λ file. file.value) c.self.inside.files.entries c.len.ensures.ordered) ∙ ap map.len c.self.view_is
