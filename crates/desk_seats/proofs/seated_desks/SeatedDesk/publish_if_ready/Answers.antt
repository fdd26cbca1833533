use Rattle.desk_seats.proofs.seated_desks.SeatedDesk.publish_if_ready.Goals as goal

pub returns-clause-done : goal.returns-clause-done
returns-clause-done g c = (_, c.publish_if_ready.ensures.done)
