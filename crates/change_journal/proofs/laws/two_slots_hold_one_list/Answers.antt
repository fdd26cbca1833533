use Rattle.change_journal.proofs.Entrywise.{holds_one_list}
use Rattle.change_journal.proofs.laws.two_slots_hold_one_list.Goals as goal

pub returns : goal.returns
returns c = holds_one_list
