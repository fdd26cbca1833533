use Rattle.std.proofs.Common.{◌≡◌, ◌+◌, ◌∙◌, ◌++◌, take, drop, [], ◌∷◌, List, ℕ, Result, Ok, Err, rules, sym, ap, subst, append-nil}
use Rattle.std.specs.List.{flat_map}
use Rattle.std.proofs.lemmas.List.{take_all, take_more}
use Rattle.std.proofs.lemmas.List.Concat.{flat_map-append}
use Rattle.http_wire.specs.declared.halts.Halt.{Halt}
use Rattle.http_wire.specs.declared.sinks.WriteFailed.{WriteFailed}
use Rattle.http_wire.specs.Gathering.{Puts}
use Rattle.http_wire.specs.Replies.{text_of_line}
use Rattle.http_wire.specs.Timing.{NoRead, Ran}
use Rattle.http_wire.proofs.SentParts.{texts_split}
use Rattle.http_wire.proofs.Writes.{puts_cut, puts_none, puts_then}
use Rattle.http_wire.proofs.reply_heads.put_lines.Goals as goal

pub loop-line-init : goal.loop-line-init
loop-line-init g c = puts_none g.D.Duplex.saw c.args.duplex.now c.args.out.now

pub returns-in_err-put_line-clause-ran : goal.returns-in_err-put_line-clause-ran
returns-in_err-put_line-clause-ran g c =
    let saw = g.D.Duplex.saw in
    let why = c.in_err-put_line.field-0.0 in
    let lines = c.args.lines.now in
    let i = c.loop-line.line-index in
    let start = c.args.out.now in
    let after = c.put_line.new.out in
    let new = c.put_line.new.duplex in
    let P : Result (Unit {0}) (Halt WriteFailed) → List ℕ → Type 0 = λ r t. Ran saw NoRead c.args.duplex.now new (Puts r t start after) in
    let is : c.from_residual.result ≡ Err why = search rules in
    let cut = puts_then saw c.args.duplex.now c.loop-line.duplex new (Err why) (flat_map text_of_line (take i lines)) _ start c.loop-line.out after c.loop-line.invariant c.in_err-put_line.ensures.ran in
    subst (λ r. P r (flat_map text_of_line lines)) (sym is) (subst (P (Err why)) (sym (texts_split text_of_line lines i _ c.loop-line-test.true))
    (puts_cut saw c.args.duplex.now new why _ (flat_map text_of_line (drop (i + 1) lines)) start after cut))

pub loop-line-preserved : goal.loop-line-preserved
loop-line-preserved g c =
    let saw = g.D.Duplex.saw in
    let lines = c.args.lines.now in
    let i = c.loop-line.line-index in
    let start = c.args.out.now in
    let after = c.put_line.new.out in
    let new = c.put_line.new.duplex in
    let P : List ℕ → Type 0 = λ t. Ran saw NoRead c.args.duplex.now new (Puts (Ok tt) t start after) in
    subst P (sym (ap (flat_map text_of_line) (take_more lines i _ c.loop-line-test.true) ∙ flat_map-append text_of_line (take i lines) (_ ∷ []) ∙ ap (λ u. flat_map text_of_line (take i lines) ++ u) (append-nil _)))
    (puts_then saw c.args.duplex.now c.loop-line.duplex new (Ok tt) (flat_map text_of_line (take i lines)) _ start c.loop-line.out after c.loop-line.invariant c.in_ok-put_line.ensures.ran)

pub returns-clause-ran : goal.returns-clause-ran
returns-clause-ran g c =
    let lines = c.args.lines.now in
    subst (λ l. Ran g.D.Duplex.saw NoRead c.args.duplex.now c.loop-line.duplex (Puts (Ok tt) (flat_map text_of_line l) c.args.out.now c.loop-line.out))
    (take_all c.loop-line.line-index lines c.loop-line-test.false) c.loop-line.invariant
