use Rattle.std.proofs.Common.{sym}
use Rattle.site_desk.specs.Books.{with_known}
use Rattle.shared_desk.proofs.desks.Desk.commit.Goals as goal

pub returns-clause-turn : goal.returns-clause-turn
returns-clause-turn g c =
    (with_known c.deref_mut.result.now c.deref_mut-2.result.now, c.commit.new.book, c.commit.ensures.turn, sym c.commit.ensures.told)
