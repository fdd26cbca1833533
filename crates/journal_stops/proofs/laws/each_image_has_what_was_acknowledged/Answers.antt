use Rattle.journal_stops.proofs.Puts.{holds_puts}
use Rattle.journal_stops.proofs.laws.each_image_has_what_was_acknowledged.Goals as goal

pub returns : goal.returns
returns g c first second found entries count leaves a b here there =
    holds_puts (g.D.Disk.may_leave first) (g.D.Disk.may_leave second) found entries count leaves a b here there c.slots_hold_an_entry_whose_gate_is_open.ensures.left
