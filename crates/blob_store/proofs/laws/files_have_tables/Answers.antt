use Rattle.blob_store.proofs.TableTexts.{is_table, size_told}
use Rattle.blob_store.proofs.laws.files_have_tables.Goals as goal

pub returns-clause-readable : goal.returns-clause-readable
returns-clause-readable c = is_table

pub returns-clause-size : goal.returns-clause-size
returns-clause-size c = size_told
