use Rattle.std.proofs.Common.{inr, rules}
use Rattle.blob_store.proofs.files.read_next.Goals as goal

pub returns-clause-fault : goal.returns-clause-fault
returns-clause-fault g c =
    let fits = c.in-Err-OutOfMemory.ensures.memory c.in-Err-OutOfMemory.field-0-is in
    inr (c.in_ok-chunk-in_default.chunk, search rules, fits, search rules)
