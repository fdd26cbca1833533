use Rattle.std.proofs.Common.{◌≤◌, ◌∷◌, ◌++◌, [], drop, take}
use Rattle.blob_store.specs.Calls.{table_of}
use Rattle.blob_store.proofs.Turns.{PiecesLeft, puts_of}
use Rattle.blob_store.proofs.puts.put_file.Given as goal

abbrev pub invariant-loop-index : goal.invariant-loop-index
invariant-loop-index g l =
    PiecesLeft g.S.Shelf.did l.fn.shelf (puts_of l.stored.names.keys l.bytes) l.shelf (table_of l.bytes ∷ []) (l.stored.names.keys ++ take l.index l.names) (drop l.index l.names) l.rest
    × (g.S.Shelf.failures l.fn.shelf ≤ g.S.Shelf.failures l.shelf)
