use Rattle.desk_seats.proofs.Turns.{of_undo}
use Rattle.desk_seats.proofs.seated_desks.SeatedDeskDeskAccess.undo.Goals as goal

pub returns-clause-asked : goal.returns-clause-asked
returns-clause-asked g c = (_, c.undo.ensures.turn)

pub returns-clause-answer : goal.returns-clause-answer
returns-clause-answer g c = of_undo _ _ c.undo.new.seen c.args.site.now c.args.change c.undo.result c.undo.ensures.turn
