use Rattle.std.proofs.Common.{◌≡◌, ◌++◌, map, drop}
use Rattle.blob_store.proofs.tables.names_in.Given as goal

abbrev pub invariant-loop-array : goal.invariant-loop-array
invariant-loop-array l = map (λ name. name.0) l.names.items ++ drop l.array-index l.arrays ≡ l.initial.arrays
