use Rattle.std.proofs.Common.{inl, refl}
use Rattle.blob_store.proofs.FilePuts.{stops_again}
use Rattle.blob_store.proofs.folder_files.make_anew.Goals as goal

pub returns-then-ne-clause-failed : goal.returns-then-ne-clause-failed
returns-then-ne-clause-failed g c = inl (_, inl refl, inl c.in-Err.ensures)

pub returns-clause-failed : goal.returns-clause-failed
returns-clause-failed g c = stops_again c.make-2.result c.args.temporary.now _ _ _ _ c.in-Err.ensures c.in_ok-remove.ensures c.make-2.ensures
