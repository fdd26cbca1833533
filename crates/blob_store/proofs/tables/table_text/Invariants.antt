use Rattle.std.proofs.Common.{◌≡◌, ◌++◌, map, drop}
use Rattle.std.specs.List.{concat}
use Rattle.blob_store.specs.Tables.{text_of}
use Rattle.blob_store.proofs.tables.table_text.Given as goal

abbrev pub invariant-loop-name : goal.invariant-loop-name
invariant-loop-name l = l.text.items ++ concat (map (λ name. name.0) (drop l.name-index l.names)) ≡ text_of l.fn.size l.names
