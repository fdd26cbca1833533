use Rattle.std.proofs.Common.{◌∙◌, ap}
use Rattle.http_wire.specs.Gathering.{Gathered}
use Rattle.http_wire.proofs.Amid.{left_goes_on}
use Rattle.http_wire.proofs.sends.Outgoing.try_send.Goals as goal

pub returns-clause-ran : goal.returns-clause-ran
returns-clause-ran g c = λ at amid. (
    let front = c.go_on.ensures in
    let b = c.behind-left.ensures in
    left_goes_on g.D.Duplex.saw c.args.duplex.now c.write.new.duplex c.write.result c.args.text.now c.behind-left.result.now at c.args.self.now c.behind-left.new.self c.write.new.self
    c.requires amid
    (b.sent ∙ ap (λ (o : Gathered). o.sent) front)
    (b.rest ∙ ap (λ (o : Gathered). o.rest) front)
    (rw front at b.left)
    (rw front at b.passed)
    c.write.ensures.passed c.write.ensures.empty c.write.ensures.ran
    )

pub returns-clause-led : goal.returns-clause-led
returns-clause-led g c = (c.write.ensures.ran.events, c.write.ensures.ran.steps)
