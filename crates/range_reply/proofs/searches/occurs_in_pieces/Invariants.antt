use Rattle.std.proofs.Common.{length}
use Rattle.std.specs.List.{concat}
use Rattle.range_reply.proofs.Occurrences.{IsSearched}
use Rattle.range_reply.proofs.searches.occurs_in_pieces.Given as goal

abbrev pub invariant-pieces : goal.invariant-pieces
invariant-pieces l = IsSearched l.bytes l.last.items (concat l.pieces) (concat l.fn.pieces)

abbrev pub decreases-pieces : goal.decreases-pieces
decreases-pieces l = length l.pieces
