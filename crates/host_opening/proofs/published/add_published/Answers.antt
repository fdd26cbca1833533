use Rattle.host_opening.proofs.Needed.{set_more}
use Rattle.host_opening.proofs.published.add_published.Goals as goal

pub returns-in_ok-insert-in-Some : goal.returns-in_ok-insert-in-Some
returns-in_ok-insert-in-Some c = λ q. set_more q c.in-Some.cell _ _ _ c.in-Some.ensures (c.in_ok-insert-in-Some.ensures.updates.0 q)
