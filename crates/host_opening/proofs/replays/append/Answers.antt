use Rattle.host_opening.proofs.Replayed.{commit_fails}
use Rattle.host_opening.proofs.replays.append.Goals as goal

pub returns-in-Err-clause-fault : goal.returns-in-Err-clause-fault
returns-in-Err-clause-fault g c =
    commit_fails (g.U.Uploads.contents c.args.uploads.now) c.args.history.now c.args.entry.now c.in-Change.command c.in_ok-copy-in-Change.copy c.in-Err.error c.requires.over c.in-Change.is
    c.in_ok-copy-in-Change.ensures.cases c.in-Err.ensures.refused
