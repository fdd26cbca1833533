use Rattle.std.proofs.Common.{◌≡◌, ◌++◌, ◌∙◌, List, ℕ, Result, Ok, Err, rules, sym, subst, append_assoc}
use Rattle.std.specs.List.{flat_map}
use Rattle.httparse.specs.Ascii.{crlf_bytes}
use Rattle.http_wire.specs.declared.halts.Halt.{Halt}
use Rattle.http_wire.specs.declared.sinks.WriteFailed.{WriteFailed}
use Rattle.http_wire.specs.Gathering.{Puts}
use Rattle.http_wire.specs.Replies.{ended_line, fields_of, head_text, status_line, text_of_line}
use Rattle.http_wire.specs.Timing.{NoRead, Ran}
use Rattle.http_wire.proofs.Writes.{puts_cut, puts_then}
use Rattle.http_wire.proofs.reply_heads.put_texts.Goals as goal

pub returns-in_err-put_status-clause-ran : goal.returns-in_err-put_status-clause-ran
returns-in_err-put_status-clause-ran g c size digits =
    let saw = g.D.Duplex.saw in
    let why = c.in_err-put_status.field-0.0 in
    let out = c.args.out.now in
    let after = c.put_status.new.out in
    let rest : List ℕ = flat_map text_of_line c.field_lines-fields.result ++ crlf_bytes in
    let P : Result (Unit {0}) (Halt WriteFailed) → List ℕ → Type 0 = λ r t. Ran saw NoRead c.args.duplex.now c.put_status.new.duplex (Puts r t out after) in
    let is : c.from_residual.result ≡ Err why = search rules in
    subst (λ r. P r (head_text (fields_of c.args.head.now size))) (sym is) (subst (P (Err why)) (c.field_lines-fields.ensures size digits)
    (puts_cut saw c.args.duplex.now c.put_status.new.duplex why _ rest out after c.in_err-put_status.ensures.ran))

pub returns-in_err-put_lines-clause-ran : goal.returns-in_err-put_lines-clause-ran
returns-in_err-put_lines-clause-ran g c size digits =
    let saw = g.D.Duplex.saw in
    let why = c.in_err-put_lines.field-0.0 in
    let old = c.args.duplex.now in
    let new = c.put_lines.new.duplex in
    let out = c.args.out.now in
    let after = c.put_lines.new.out in
    let status : List ℕ = ended_line (status_line c.args.head.now.status) in
    let fields : List ℕ = flat_map text_of_line c.field_lines-fields.result in
    let P : Result (Unit {0}) (Halt WriteFailed) → List ℕ → Type 0 = λ r t. Ran saw NoRead old new (Puts r t out after) in
    let is : c.from_residual-in_err-put_lines.result ≡ Err why = search rules in
    let cut = puts_then saw old c.put_status.new.duplex new (Err why) status fields out c.put_status.new.out after c.in_ok-put_status.ensures.ran c.in_err-put_lines.ensures.ran in
    subst (λ r. P r (head_text (fields_of c.args.head.now size))) (sym is) (subst (P (Err why)) (append_assoc status fields crlf_bytes ∙ c.field_lines-fields.ensures size digits)
    (puts_cut saw old new why (status ++ fields) crlf_bytes out after cut))

pub returns-clause-ran : goal.returns-clause-ran
returns-clause-ran g c size digits =
    let saw = g.D.Duplex.saw in
    let old = c.args.duplex.now in
    let new = c.put.new.duplex in
    let out = c.args.out.now in
    let second = c.put_lines.new.out in
    let after = c.put.new.self in
    let status : List ℕ = ended_line (status_line c.args.head.now.status) in
    let fields : List ℕ = flat_map text_of_line c.field_lines-fields.result in
    let P : List ℕ → Type 0 = λ t. Ran saw NoRead old new (Puts c.put.result t out after) in
    let two = puts_then saw old c.put_status.new.duplex c.put_lines.new.duplex (Ok tt) status fields out c.put_status.new.out second c.in_ok-put_status.ensures.ran c.in_ok-put_lines.ensures.ran in
    subst P (append_assoc status fields crlf_bytes ∙ c.field_lines-fields.ensures size digits)
    (puts_then saw old c.put_lines.new.duplex new c.put.result (status ++ fields) crlf_bytes out second after two c.put.ensures.ran)
