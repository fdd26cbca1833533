use Rattle.std.proofs.Common.{◌≡◌, Err, Result, ℕ, rules, sym, subst}
use Rattle.http_wire.specs.Answers.{HeadAnswers}
use Rattle.http_wire.specs.declared.answers.AnswerFault.{AnswerFault}
use Rattle.http_wire.specs.declared.answers.AnswerFault.TheVariants.{BadHead}
use Rattle.http_wire.proofs.AnswerHeads.{bad_without, bad_length}
use Rattle.http_wire.proofs.answer_heads.judge.Goals as goal

pub returns-in_err-spans : goal.returns-in_err-spans
returns-in_err-spans c =
    let is : c.from_residual.result ≡ Err BadHead = search rules in
    let P : Result ℕ AnswerFault → Type 0 = λ r. HeadAnswers r c.args.limit c.args.text.now in
    subst P (sym is) (bad_without c.args.limit c.args.text.now c.in_err-spans.ensures.fault.1)

pub returns-in_default : goal.returns-in_default
returns-in_default c =
    bad_length c.args.limit c.args.text.now _ c.in_ok-spans.ensures.found (search rules) (λ n one. c.in_default.ensures.none n one)
