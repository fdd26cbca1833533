use Rattle.blob_store.proofs.Stored.{AreDigested-none, no_names}
use Rattle.blob_store.proofs.blob_indexes.BlobIndex.new.Goals as goal

pub invariant_of-result : goal.invariant_of-result
invariant_of-result c = (AreDigested-none (λ file. file.value) _ c.new.ensures.empty, no_names _ _ c.new-2.ensures)
