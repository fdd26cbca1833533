use Rattle.change_journal.proofs.HeldLists.{finds_before}
use Rattle.change_journal.proofs.laws.an_opening_ends_at_a_gate_that_is_not_open.Goals as goal

pub returns : goal.returns
returns c = finds_before
