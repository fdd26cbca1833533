use Rattle.std.proofs.Common.{IfOk, subst}
use Rattle.single_flight.proofs.runs.joined.Goals as goal

pub returns-then-is_of : goal.returns-then-is_of
returns-then-is_of g c =
    subst (λ key. IfOk c.share.result (λ outcome. ∥ g.L.Loads.fits key outcome ∥₁)) (c.is_of.ensures.0 c.if-is_of.true) c.share.ensures
