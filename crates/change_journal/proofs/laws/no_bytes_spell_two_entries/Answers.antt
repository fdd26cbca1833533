use Rattle.entry_texts.proofs.Entries.{one_entry}
use Rattle.change_journal.proofs.laws.no_bytes_spell_two_entries.Goals as goal

pub returns : goal.returns
returns c = one_entry
