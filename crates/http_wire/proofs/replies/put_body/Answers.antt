use Rattle.std.proofs.Common.{Ok, subst, sym}
use Rattle.http_wire.specs.declared.replies.ReplyBody.{ReplyBody}
use Rattle.http_wire.specs.Gathering.{Puts}
use Rattle.http_wire.specs.Replies.{sent_of}
use Rattle.http_wire.specs.Timing.{NoRead, Ran}
use Rattle.http_wire.proofs.Writes.{puts_none}
use Rattle.http_wire.proofs.replies.put_body.Goals as goal

pub returns-in-Withheld-clause-ran : goal.returns-in-Withheld-clause-ran
returns-in-Withheld-clause-ran g c =
    subst (λ (b : ReplyBody g.row.P.Denot). Ran g.D.Duplex.saw NoRead c.args.duplex.now c.args.duplex.now (Puts (Ok tt) (sent_of g.P.BodyParts.texts b) c.args.out.now c.args.out.now))
    (sym c.in-Withheld.is) (puts_none g.D.Duplex.saw c.args.duplex.now c.args.out.now)
