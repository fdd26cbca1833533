use Rattle.std.proofs.Common.{subst}
use Rattle.http_wire.specs.Gathering.{Gathered, Puts}
use Rattle.http_wire.specs.Replies.{sent_reply}
use Rattle.http_wire.specs.Timing.{NoRead, Ran}
use Rattle.http_wire.proofs.Amid.{reply_goes_on}
use Rattle.http_wire.proofs.replies.try_write_reply.Goals as goal

pub returns-clause-ran : goal.returns-clause-ran
returns-clause-ran g c = λ at amid. (
    let P : Gathered → Type 0 = λ out. Ran g.D.Duplex.saw NoRead c.args.duplex.now c.put_both.new.duplex (Puts c.put_both.result (sent_reply g.P.BodyParts.texts c.args.head.now c.args.body) out c.put_both.new.out) in
    reply_goes_on g.D.Duplex.saw c.args.duplex.now c.put_both.new.duplex c.put_both.result (sent_reply g.P.BodyParts.texts c.args.head.now c.args.body) at c.args.out.now c.put_both.new.out
    c.requires amid c.put_both.ensures.empty (subst P c.go_on.ensures c.put_both.ensures.ran)
    )

pub returns-clause-led : goal.returns-clause-led
returns-clause-led g c = (c.put_both.ensures.ran.events, c.put_both.ensures.ran.steps)
