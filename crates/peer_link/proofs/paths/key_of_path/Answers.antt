use Rattle.peer_link.proofs.PathStarts.{without_start}
use Rattle.peer_link.proofs.paths.key_of_path.Goals as goal

pub returns-in-None-clause-none : goal.returns-in-None-clause-none
returns-in-None-clause-none c key is = without_start c.args.path.now key c.in-None.ensures.cases is
