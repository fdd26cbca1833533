use Rattle.std.proofs.Common.{◌≤◌, drop}
use Rattle.blob_store.proofs.FileReads.{PiecesSoFar}
use Rattle.blob_store.proofs.files.read_pieces.Given as goal

abbrev pub invariant-loop-name : goal.invariant-loop-name
invariant-loop-name g l =
    PiecesSoFar g.S.Shelf.did l.fn.shelf l.shelf l.joined (drop l.name-index l.names) l.names × (g.S.Shelf.failures l.fn.shelf ≤ g.S.Shelf.failures l.shelf)
