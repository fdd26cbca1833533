use Rattle.std.proofs.Common.{◌≤◌, drop}
use Rattle.blob_store.proofs.TakenFiles.{TakenSoFar}
use Rattle.blob_store.proofs.openings.open_files.Given as goal

abbrev pub invariant-loop-one : goal.invariant-loop-one
invariant-loop-one g l =
    TakenSoFar g.S.Shelf.did l.fn.shelf l.shelf l.wanted (drop l.one-index l.wanted) l.known × (g.S.Shelf.failures l.fn.shelf ≤ g.S.Shelf.failures l.shelf)
