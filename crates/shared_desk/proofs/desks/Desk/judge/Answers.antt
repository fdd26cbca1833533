use Rattle.std.proofs.Common.{sym}
use Rattle.shared_desk.proofs.desks.Desk.judge.Goals as goal

pub returns-clause-judged : goal.returns-clause-judged
returns-clause-judged g c = (c.deref_mut.result.now, c.judge.ensures.judged, sym c.judge.ensures.told)
