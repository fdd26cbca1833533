use Rattle.std.proofs.Common.{◌+◌, ◌-◌, ◌∙◌, ap}
use Rattle.range_reply.proofs.Lending.{single_long}
use Rattle.range_reply.proofs.file_bodies.single_length.Goals as goal

pub returns-clause-long : goal.returns-clause-long
returns-clause-long c =
    ap (λ s. s.1 - s.0 + 1) c.stretch-first.ensures.value
    ∙ single_long c.args.holds.now c.hold-item.result _ c.requires c.in-len1.len_at_least c.hold-item.is c.stretch-first.ensures.held
