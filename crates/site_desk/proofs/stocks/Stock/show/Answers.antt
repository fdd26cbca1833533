use Rattle.std.proofs.Common.{sym}
use Rattle.site_desk.proofs.AddedFiles.{nothing_within}
use Rattle.site_desk.proofs.stocks.Stock.show.Goals as goal

pub returns-in-None-clause-more : goal.returns-in-None-clause-more
returns-in-None-clause-more g c = nothing_within c.args.seen.now c.match-seen-2.seen (sym (rw c.in-None.is at c.seen.view_is))
