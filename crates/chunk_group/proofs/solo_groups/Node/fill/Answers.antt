use Rattle.std.proofs.Common.{rules, ◌≡◌, Err, refl}
use Rattle.chunk_group.specs.declared.loads.Giver.TheVariants.{Source}
use Rattle.chunk_group.proofs.solo_groups.Node.fill.Goals as goal

pub returns-in_err-chunk-clause-missed : goal.returns-in_err-chunk-clause-missed
returns-in_err-chunk-clause-missed g c =
    let why = c.in_err-chunk.field-0.0 in
    let is : c.from_residual.result ≡ Err why = search rules in
    rw is (record { missed = c.requires; giver = Source; given = Err why; asked = c.in_err-chunk.ensures.fault; answered = (refl, refl) })
