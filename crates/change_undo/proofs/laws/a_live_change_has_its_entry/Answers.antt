use Rattle.change_undo.proofs.LiveEntries.{entry-lives, live-entry, live-marked}
use Rattle.change_undo.proofs.laws.a_live_change_has_its_entry.Goals as goal

pub returns-clause-entry : goal.returns-clause-entry
returns-clause-entry c = live-entry

pub returns-clause-marked : goal.returns-clause-marked
returns-clause-marked c = live-marked

pub returns-clause-lives : goal.returns-clause-lives
returns-clause-lives c = entry-lives
