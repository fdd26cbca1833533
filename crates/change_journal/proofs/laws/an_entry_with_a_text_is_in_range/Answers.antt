use Rattle.entry_texts.proofs.Entries.{in_range}
use Rattle.change_journal.proofs.laws.an_entry_with_a_text_is_in_range.Goals as goal

pub returns : goal.returns
returns c = in_range
