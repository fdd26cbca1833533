use Rattle.desk_seats.proofs.Turns.{of_commit}
use Rattle.desk_seats.proofs.seated_desks.SeatedDeskDeskAccess.commit.Goals as goal

pub returns-clause-asked : goal.returns-clause-asked
returns-clause-asked g c = (_, c.commit.ensures.turn)

pub returns-clause-answer : goal.returns-clause-answer
returns-clause-answer g c = of_commit _ _ c.commit.new.seen c.args.command c.commit.result c.commit.ensures.turn
