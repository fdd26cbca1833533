use Rattle.byte_view.proofs.CutPieces.{byte_in, concat-cut, length-cut, size_in}
use Rattle.byte_view.proofs.laws.files_are_cut_into_pieces.Goals as goal

pub returns-clause-joined : goal.returns-clause-joined
returns-clause-joined c = concat-cut

pub returns-clause-count : goal.returns-clause-count
returns-clause-count c = length-cut

pub returns-clause-sizes : goal.returns-clause-sizes
returns-clause-sizes c = size_in

pub returns-clause-placed : goal.returns-clause-placed
returns-clause-placed c = byte_in
