use Rattle.std.proofs.Common.{sym}
use Rattle.shared_desk.proofs.desks.Desk.undo.Goals as goal

pub returns-clause-turn : goal.returns-clause-turn
returns-clause-turn g c = (c.deref_mut.result.now, c.undo.new.book, c.undo.ensures.turn, sym c.undo.ensures.told)
