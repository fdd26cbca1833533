use Rattle.std.proofs.Common.{ℕ, List, ◌++◌, Ok, Err, ap, subst, append-nil}
use Rattle.std.specs.Prelude.{codes}
use Rattle.http_wire.specs.declared.halts.Halt.{Halt}
use Rattle.http_wire.specs.declared.sinks.WriteFailed.{WriteFailed}
use Rattle.http_wire.specs.Answers.{get_text}
use Rattle.http_wire.specs.Gathering.{Puts}
use Rattle.http_wire.specs.Timing.{NoRead, Ran}
use Rattle.http_wire.proofs.Writes.{puts_failed, puts_written}
use Rattle.http_wire.proofs.gets.write_pieces.Goals as goal

pub returns-in-Ok : goal.returns-in-Ok
returns-in-Ok g c =
    let last = codes " HTTP/1.1\r\nHost: peer\r\n\r\n" in
    let Q : List ℕ → Type 0 = λ t. Ran g.D.Duplex.saw NoRead c.args.duplex.now c.put_all.new.duplex (Puts (Ok tt) t c.begin.new.self c.put_all.new.out) in
    puts_written g.D.Duplex.saw c.args.duplex.now c.put_all.new.duplex (get_text c.args.path.now) c.begin.new.self c.put_all.new.out c.begin.ensures c.in-Ok.ensures.empty
    (subst Q (ap (λ u. codes "GET " ++ (c.args.path.now ++ u)) (append-nil last)) c.in-Ok.ensures.ran)

pub returns-in-Err-Failed : goal.returns-in-Err-Failed
returns-in-Err-Failed g c =
    let last = codes " HTTP/1.1\r\nHost: peer\r\n\r\n" in
    let P : Halt WriteFailed → List ℕ → Type 0 = λ why t. Ran g.D.Duplex.saw NoRead c.args.duplex.now c.put_all.new.duplex (Puts (Err why) t c.begin.new.self c.put_all.new.out) in
    puts_failed g.D.Duplex.saw c.args.duplex.now c.put_all.new.duplex _ _ (get_text c.args.path.now) c.begin.new.self c.put_all.new.out c.begin.ensures c.sent.ensures
    (subst (λ why. P why (get_text c.args.path.now)) c.in-Err-Failed.field-0-is
    (subst (P c.in-Err-Failed.field-0) (ap (λ u. codes "GET " ++ (c.args.path.now ++ u)) (append-nil last)) c.in-Err-Failed.ensures.ran))
