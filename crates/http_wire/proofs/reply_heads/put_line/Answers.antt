use Rattle.std.proofs.Common.{◌≡◌, [], List, ℕ, Ok, rules, subst, sym}
use Rattle.http_wire.specs.Gathering.{Puts}
use Rattle.http_wire.specs.Replies.{text_of_line}
use Rattle.http_wire.specs.Timing.{NoRead, Ran}
use Rattle.http_wire.proofs.Writes.{puts_none}
use Rattle.http_wire.proofs.reply_heads.put_line.Goals as goal

pub returns-in_default-clause-ran : goal.returns-in_default-clause-ran
returns-in_default-clause-ran g c =
    let none : text_of_line c.args.line.now ≡ [] = search rules in
    subst (λ (t : List ℕ). Ran g.D.Duplex.saw NoRead c.args.duplex.now c.args.duplex.now (Puts (Ok tt) t c.args.out.now c.args.out.now)) (sym none)
    (puts_none g.D.Duplex.saw c.args.duplex.now c.args.out.now)
