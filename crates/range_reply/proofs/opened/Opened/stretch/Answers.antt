use Rattle.std.proofs.Common.{◌∙◌, ap, append-nil}
use Rattle.byte_view.specs.Holds.{lent}
use Rattle.range_reply.proofs.opened.Opened.stretch.Goals as goal

pub returns-clause-rest : goal.returns-clause-rest
returns-clause-rest c = append-nil _ ∙ c.pieces.ensures.each ∙ ap (λ s. lent c.args.hold.now s.0 s.1) c.stretch-first.ensures.value
