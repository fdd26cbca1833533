use Rattle.std.proofs.Common.{sym, ◌∙◌}
use Rattle.change_journal.proofs.JournalSteps.{all_stored}
use Rattle.change_journal.proofs.journals.Journal.is_broken.Goals as goal

pub returns-clause-stored : goal.returns-clause-stored
returns-clause-stored g c = rw (← c.self.view_is) (λ modelled whole. all_stored g.D.Disk.moment g.D.Disk.left_since g.D.Disk.may_leave c.self.inside.slots _ c.self.invariant.writable (c.self.invariant.settled modelled (sym c.is_broken.ensures ∙ whole)))
