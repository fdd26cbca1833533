use Rattle.desk_seats.proofs.seated_desks.SeatedDesk.judge.Goals as goal

pub returns-clause-judged : goal.returns-clause-judged
returns-clause-judged g c = (_, c.judge.ensures.judged)
