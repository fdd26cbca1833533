use Rattle.command_line.proofs.Asking.{alone, joined, marked, not_bare, not_twice}
use Rattle.command_line.proofs.laws.solo_takes_one_folder.Goals as goal

pub returns-clause-alone : goal.returns-clause-alone
returns-clause-alone c = alone

pub returns-clause-marked : goal.returns-clause-marked
returns-clause-marked c = marked

pub returns-clause-given : goal.returns-clause-given
returns-clause-given c = joined

pub returns-clause-twice : goal.returns-clause-twice
returns-clause-twice c = not_twice

pub returns-clause-bare : goal.returns-clause-bare
returns-clause-bare c = not_bare
