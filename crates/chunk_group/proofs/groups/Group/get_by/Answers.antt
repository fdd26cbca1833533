use Rattle.std.proofs.Common.{rules}
use Rattle.chunk_group.specs.Outcomes.{IsOutcome}
use Rattle.chunk_group.proofs.Outcomes.{outcome-allowed, outcome-named, outcome_of}
use Rattle.chunk_group.proofs.groups.Group.get_by.Goals as goal

pub returns-in-Ok-clause-named : goal.returns-in-Ok-clause-named
returns-in-Ok-clause-named g c =
    let fits : ∥ IsOutcome (λ share. share.value) g.S.Source.allows c.args.key.now c.in-Ok.outcome ∥₁ = search rules in
    outcome-named (λ share. share.value) g.S.Source.allows c.args.key.now c.in-Ok.outcome fits

pub returns-in-Ok-clause-fault : goal.returns-in-Ok-clause-fault
returns-in-Ok-clause-fault g c =
    let fits : ∥ IsOutcome (λ share. share.value) g.S.Source.allows c.args.key.now c.in-Ok.outcome ∥₁ = search rules in
    outcome-allowed (λ share. share.value) g.S.Source.allows c.args.key.now c.in-Ok.outcome fits

pub run-run-requires-clause-fits : goal.run-run-requires-clause-fits
run-run-requires-clause-fits g c outcome ran =
    outcome_of (λ share. share.value) g.S.Source.allows c.args.key.now outcome (search rules) (search rules)
