use Rattle.std.proofs.Common.{Err, subst}
use Rattle.http_wire.specs.declared.halts.Halt.{Halt}
use Rattle.http_wire.specs.declared.sinks.WriteFailed.{WriteFailed}
use Rattle.http_wire.specs.Gathering.{Puts}
use Rattle.http_wire.specs.Replies.{sent_reply}
use Rattle.http_wire.specs.Timing.{NoRead, Ran}
use Rattle.http_wire.proofs.Writes.{puts_failed, puts_written}
use Rattle.http_wire.proofs.replies.write_both.Goals as goal

pub returns-in-Ok : goal.returns-in-Ok
returns-in-Ok g c =
    puts_written g.D.Duplex.saw c.args.duplex.now c.put_both.new.duplex (sent_reply g.P.BodyParts.texts c.args.head.now c.args.body) c.begin.new.self c.put_both.new.out c.begin.ensures c.in-Ok.ensures.empty c.in-Ok.ensures.ran

pub returns-in-Err-Failed : goal.returns-in-Err-Failed
returns-in-Err-Failed g c =
    let P : Halt WriteFailed → Type 0 = λ why. Ran g.D.Duplex.saw NoRead c.args.duplex.now c.put_both.new.duplex (Puts (Err why) (sent_reply g.P.BodyParts.texts c.args.head.now c.args.body) c.begin.new.self c.put_both.new.out) in
    puts_failed g.D.Duplex.saw c.args.duplex.now c.put_both.new.duplex _ _ (sent_reply g.P.BodyParts.texts c.args.head.now c.args.body) c.begin.new.self c.put_both.new.out c.begin.ensures c.sent.ensures
    (subst P c.in-Err-Failed.field-0-is c.in-Err-Failed.ensures.ran)
