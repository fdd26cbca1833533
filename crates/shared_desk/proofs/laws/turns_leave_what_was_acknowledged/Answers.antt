use Rattle.shared_desk.proofs.Standing.{after_turns, in_one, what_is_held}
use Rattle.shared_desk.proofs.laws.turns_leave_what_was_acknowledged.Goals as goal

pub returns-clause-stands : goal.returns-clause-stands
returns-clause-stands g c log old new turns stands are = after_turns g.D.Disk g.met.D.Disk.counts_now turns log old new stands are

pub returns-clause-held : goal.returns-clause-held
returns-clause-held g c log book stands modelled a b here there =
    what_is_held g.D.Disk g.met.D.Disk.counts_now log book stands modelled a b here there c.slots_hold_an_entry_whose_gate_is_open.ensures.left

pub returns-clause-in_turn : goal.returns-clause-in_turn
returns-clause-in_turn g c log old new turn stands whole is modelled a b here there =
    in_one g.D.Disk g.met.D.Disk.counts_now g.met.D.Disk.only_now c.slots_hold_an_entry_whose_gate_is_open.ensures.left turn.entry log old new turn.answer stands whole is modelled a b here there
