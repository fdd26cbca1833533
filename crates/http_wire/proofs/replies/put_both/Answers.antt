use Rattle.std.proofs.Common.{◌≡◌, ℕ, Result, Ok, Err, rules, sym, subst}
use Rattle.http_wire.specs.declared.halts.Halt.{Halt}
use Rattle.http_wire.specs.declared.sinks.WriteFailed.{WriteFailed}
use Rattle.http_wire.specs.Gathering.{Puts}
use Rattle.http_wire.specs.Replies.{fields_of, head_text, sent_of, sent_reply}
use Rattle.http_wire.specs.Timing.{NoRead, Ran}
use Rattle.http_wire.proofs.Writes.{puts_cut, puts_flushed, puts_then}
use Rattle.http_wire.proofs.replies.put_both.Goals as goal

pub returns-in_err-put_head-clause-ran : goal.returns-in_err-put_head-clause-ran
returns-in_err-put_head-clause-ran g c =
    let saw = g.D.Duplex.saw in
    let why = c.in_err-put_head.field-0.0 in
    let out = c.args.out.now in
    let after = c.put_head.new.out in
    let body = sent_of g.P.BodyParts.texts c.args.body in
    let P : Result (Unit {0}) (Halt WriteFailed) → Type 0 = λ r. Ran saw NoRead c.args.duplex.now c.put_head.new.duplex (Puts r (sent_reply g.P.BodyParts.texts c.args.head.now c.args.body) out after) in
    let Q : ℕ → Type 0 = λ n. Ran saw NoRead c.args.duplex.now c.put_head.new.duplex (Puts (Err why) (head_text (fields_of c.args.head.now n)) out after) in
    let is : c.from_residual.result ≡ Err why = search rules in
    subst P (sym is) (puts_cut saw c.args.duplex.now c.put_head.new.duplex why _ body out after (subst Q c.size.ensures c.in_err-put_head.ensures.ran))

pub returns-in_err-put_body-clause-ran : goal.returns-in_err-put_body-clause-ran
returns-in_err-put_body-clause-ran g c =
    let saw = g.D.Duplex.saw in
    let why = c.in_err-put_body.field-0.0 in
    let out = c.args.out.now in
    let between = c.put_head.new.out in
    let after = c.put_body.new.out in
    let P : Result (Unit {0}) (Halt WriteFailed) → Type 0 = λ r. Ran saw NoRead c.args.duplex.now c.put_body.new.duplex (Puts r (sent_reply g.P.BodyParts.texts c.args.head.now c.args.body) out after) in
    let Q : ℕ → Type 0 = λ n. Ran saw NoRead c.args.duplex.now c.put_head.new.duplex (Puts (Ok tt) (head_text (fields_of c.args.head.now n)) out between) in
    let is : c.from_residual-in_err-put_body.result ≡ Err why = search rules in
    subst P (sym is) (puts_then saw c.args.duplex.now c.put_head.new.duplex c.put_body.new.duplex (Err why) _ _ out between after
    (subst Q c.size.ensures c.in_ok-put_head.ensures.ran) c.in_err-put_body.ensures.ran)

pub returns-clause-ran : goal.returns-clause-ran
returns-clause-ran g c =
    let saw = g.D.Duplex.saw in
    let out = c.args.out.now in
    let between = c.put_head.new.out in
    let after = c.put_body.new.out in
    let Q : ℕ → Type 0 = λ n. Ran saw NoRead c.args.duplex.now c.put_head.new.duplex (Puts (Ok tt) (head_text (fields_of c.args.head.now n)) out between) in
    puts_flushed saw c.args.duplex.now c.put_body.new.duplex c.write.new.duplex c.write.result _ out after c.write.new.self
    (puts_then saw c.args.duplex.now c.put_head.new.duplex c.put_body.new.duplex (Ok tt) _ _ out between after (subst Q c.size.ensures c.in_ok-put_head.ensures.ran) c.in_ok-put_body.ensures.ran)
    c.write.ensures.passed c.write.ensures.ran
