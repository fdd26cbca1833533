use Rattle.std.proofs.Common.{arith}
use Rattle.std.proofs.lemmas.List.{length-map}
use Rattle.host_names.specs.Digests.{digest_of}
use Rattle.byte_view.specs.Cuts.{cut}
use Rattle.byte_view.proofs.Slices.{slice_range-map}
use Rattle.byte_view.proofs.CutPieces.{length-cut}
use Rattle.byte_view.proofs.blob_infos.BlobInfo.piece_range.Goals as goal

pub returns-clause-within : goal.returns-clause-within
returns-clause-within c =
    let names = length-map (cut c.args.self.now) digest_of in
    let pieces = length-cut c.args.self.now in
    omega (arith, names, pieces, c.requires.within)

pub returns-clause-names : goal.returns-clause-names
returns-clause-names c = slice_range-map digest_of (cut c.args.self.now) _ _
