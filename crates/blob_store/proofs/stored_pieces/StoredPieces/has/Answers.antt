use Rattle.std.proofs.Common.{sym, ◌∙◌}
use Rattle.blob_store.proofs.StoredNames.{key_there, there_key}
use Rattle.blob_store.proofs.stored_pieces.StoredPieces.has.Goals as goal

pub returns : goal.returns
returns c = (λ is. key_there c.args.self.now.names.keys c.args.name.now (sym c.contains.ensures ∙ is), λ there. c.contains.ensures ∙ there_key c.args.self.now.names.keys c.args.name.now there)
