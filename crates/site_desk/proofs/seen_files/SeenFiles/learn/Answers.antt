use Rattle.std.proofs.Common.{sym}
use Rattle.site_desk.proofs.AddedFiles.{nothing_within}
use Rattle.site_desk.proofs.seen_files.SeenFiles.learn.Goals as goal

pub returns-in_default-clause-learnt : goal.returns-in_default-clause-learnt
returns-in_default-clause-learnt g c = nothing_within c.args.other.now c.args.self.now (sym (rw c.in_default.is at c.other.view_is))

pub returns-in-None-clause-kept : goal.returns-in-None-clause-kept
returns-in-None-clause-kept g c = nothing_within c.args.self.now c.match-self-2.self (sym (rw c.in-None.is at c.self.view_is))
