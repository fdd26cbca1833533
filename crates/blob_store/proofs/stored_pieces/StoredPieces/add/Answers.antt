use Rattle.std.proofs.Common.{[], get_or}
use Rattle.std.proofs.lemmas.List.Elements.{Contains-get_or}
use Rattle.host_names.specs.declared.digests.Digest.{Digest}
use Rattle.blob_store.proofs.StoredNames.{one_tried}
use Rattle.blob_store.proofs.stored_pieces.StoredPieces.add.Goals as goal

pub loop-name-preserved : goal.loop-name-preserved
loop-name-preserved c =
    let names = c.args.names.now in
    let k = c.loop-name.name-index in
    let none : Digest = record { 0 = [] } in
    one_tried c.args.self.now.names.keys names c.loop-name.self.names c.insert.new.self (get_or names k none) c.insert.result c.loop-name.invariant
    (Contains-get_or names k none c.loop-name-test.true) c.insert.ensures.updates c.insert.ensures.err
