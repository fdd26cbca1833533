use Rattle.std.proofs.Common.{Result, Ok, Err, IfOk, MatchResult}
use Rattle.std.proofs.Math.Logic.{∥∥₁_map}
use Rattle.single_flight.proofs.runs.Landed.share.Goals as goal

-- what was so of an outcome is so of its share
shared : {X E : Type 0} (is_clone fits : X → Type 0) (none : E → Type 0) (fitted : Type 0) (r : Result X E) → MatchResult r is_clone none → ∥ fitted ∥₁
    → ((share : X) → is_clone share → fitted → fits share) → IfOk r (λ share. ∥ fits share ∥₁)
shared is_clone fits none fitted (Ok share) clone fit law = ∥∥₁_map fit (law share clone)
shared is_clone fits none fitted (Err why) clone fit law = tt

pub returns : goal.returns
returns g c =
    let landed = c.args.self.now in
    shared (g.T.Clone.is_clone landed.outcome) (λ share. g.L.Loads.fits landed.key share) _ (g.L.Loads.fits landed.key landed.outcome) c.clone.result
    c.clone.ensures.cases landed.fitting (λ share clone fits. g.met.L.Loads.clones_fit landed.key landed.outcome share clone fits)
