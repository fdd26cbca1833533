use Rattle.std.proofs.Common.{◌≡◌, ◌++◌}
use Rattle.byte_view.specs.Cuts.{names_of}
use Rattle.byte_view.proofs.blob_infos.names_in.Given as goal

abbrev pub invariant-loop-piece : goal.invariant-loop-piece
invariant-loop-piece l =
    (l.piece-iterator.size ≡ 65536) × (l.names.items ++ names_of l.piece-iterator.rest.now ≡ names_of l.bytes)
