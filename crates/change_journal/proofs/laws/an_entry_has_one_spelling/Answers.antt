use Rattle.entry_texts.proofs.Entries.{spelling_length}
use Rattle.change_journal.proofs.laws.an_entry_has_one_spelling.Goals as goal

pub returns-clause-bounded : goal.returns-clause-bounded
returns-clause-bounded c = spelling_length
