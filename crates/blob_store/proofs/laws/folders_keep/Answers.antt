use Rattle.blob_store.proofs.Foldered.{folder_keeps}
use Rattle.blob_store.specs.Folders.{calls_of}
use Rattle.blob_store.proofs.laws.folders_keep.Goals as goal

pub returns-clause-keeps : goal.returns-clause-keeps
returns-clause-keeps g c = λ first gave. folder_keeps (λ shelf. calls_of shelf.log) _ first gave
