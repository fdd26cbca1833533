use Rattle.std.proofs.Common.{sym}
use Rattle.site_desk.specs.Books.{with_known}
use Rattle.shared_desk.proofs.desks.Desk.publish_if_ready.Goals as goal

pub returns-clause-done : goal.returns-clause-done
returns-clause-done g c =
    let met = with_known c.deref_mut.result.now c.deref_mut-2.result.now in
    (met, c.publish_if_ready.new.book, c.publish_if_ready.ensures.done, sym c.publish_if_ready.ensures.told, sym c.publish_if_ready.ensures.files)
