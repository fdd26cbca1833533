use Rattle.std.proofs.Common.{subst}
use Rattle.byte_view.specs.Contents.{Contents}
use Rattle.blob_store.specs.Calls.{AreKnownNames}
use Rattle.blob_store.proofs.blob_indexes.BlobIndex.pieces.Goals as goal

pub returns : goal.returns
returns c = subst (λ (known : Contents). AreKnownNames known c.self.inside.pieces.names.keys) c.self.view_is c.self.invariant.1
