use Rattle.std.proofs.Common.{subst, sym}
use Rattle.blob_store.specs.Tables.{IsTable}
use Rattle.blob_store.proofs.FileReads.{no_table}
use Rattle.blob_store.proofs.files.read_table.Goals as goal

pub returns-in-Err-Damaged-clause-fault : goal.returns-in-Err-Damaged-clause-fault
returns-in-Err-Damaged-clause-fault g c =
    let text = c.in-Ok-Some.text.items in
    let none : IsTable text → ⊥ = λ table. cc (c.in-Err-Damaged.ensures.judged.1 (subst IsTable (sym c.as_slice.ensures.value) table)) in
    (text, rw c.in-Ok-Some.field-0-is at c.in-Ok-Some.ensures.got, no_table text none)
