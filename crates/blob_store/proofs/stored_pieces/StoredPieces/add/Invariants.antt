use Rattle.blob_store.proofs.StoredNames.{AreAdded}
use Rattle.blob_store.proofs.stored_pieces.StoredPieces.add.Given as goal

abbrev pub invariant-loop-name : goal.invariant-loop-name
invariant-loop-name l = AreAdded l.fn.self.names.keys l.names l.self.names.keys
