use Rattle.blob_store.proofs.Shelved.{mem_shelf_always_keeps, mem_shelf_keeps}
use Rattle.blob_store.proofs.laws.shelves_in_memory_keep.Goals as goal

pub returns-clause-always : goal.returns-clause-always
returns-clause-always c = mem_shelf_always_keeps

pub returns-clause-keeps : goal.returns-clause-keeps
returns-clause-keeps c = mem_shelf_keeps
