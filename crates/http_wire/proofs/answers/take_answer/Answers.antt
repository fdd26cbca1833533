use Rattle.std.proofs.Common.{◌≤◌, ℕ, List, Result, Ok, Err, Global, Vec, length, take, sym, subst, arith}
use Rattle.http_wire.specs.declared.answers.AnswerFault.{AnswerFault}
use Rattle.http_wire.specs.declared.faults.BodyFault.{BodyFault}
use Rattle.http_wire.specs.declared.faults.HeadFault.{HeadFault}
use Rattle.http_wire.specs.declared.halts.Halt.{Halt}
use Rattle.http_wire.specs.Answers.{HeadAnswers}
use Rattle.http_wire.specs.AnswerReads.{AwaitsAnswer, ReadsAnswer}
use Rattle.http_wire.specs.Halting.{TriesToFind}
use Rattle.http_wire.specs.Timing.{Ran}
use Rattle.http_wire.specs.Wires.{AwaitsBody, AwaitsHead, FindsHead, ReadsBody}
use Rattle.http_wire.proofs.AnswerTrails.{refused, with_body, without_head}
use Rattle.http_wire.proofs.answers.take_answer.Goals as goal

pub find_head-requires : goal.find_head-requires
find_head-requires g c = c.new-search.ensures _

pub returns-in-Err-Failed : goal.returns-in-Err-Failed
returns-in-Err-Failed g c =
    let saw = g.D.Duplex.saw in
    let bytes = c.find_head.new.buffer in
    let P : AnswerFault → Type 0 = λ f. Ran saw (AwaitsAnswer c.args.limit) c.args.duplex.now c.find_head.new.duplex (ReadsAnswer {A = Global} (Err f) c.args.limit) in
    let Q : Halt HeadFault → Type 0 = λ why. Ran saw (AwaitsHead c.args.buffer.now) c.args.duplex.now c.find_head.new.duplex (TriesToFind (Err why) c.args.buffer.now bytes) in
    let found = subst (λ (b : List ℕ). Ran saw (AwaitsHead b) c.args.duplex.now c.find_head.new.duplex (FindsHead (Err c.in-Err-Failed.fault) b bytes)) c.requires
    (subst Q c.in-Err-Failed.field-0-is c.in-Err-Failed.ensures.ran) in
    subst P (sym c.without_head.ensures) (without_head {A = Global} saw c.args.duplex.now c.find_head.new.duplex c.in-Err-Failed.fault c.args.limit bytes found)

pub returns-in-Err : goal.returns-in-Err
returns-in-Err g c =
    let saw = g.D.Duplex.saw in
    let bytes = c.find_head.new.buffer in
    let count = c.in-Ok.count in
    let room : length bytes ≤ 16384 = omega (arith, c.as_slice.ensures.fits) in
    let found = subst (λ (b : List ℕ). Ran saw (AwaitsHead b) c.args.duplex.now c.find_head.new.duplex (FindsHead (Ok count) b bytes)) c.requires c.in-Ok.ensures.ran in
    let said = subst (λ (b : List ℕ). HeadAnswers (Err c.in-Err.fault) c.args.limit (take count b)) c.as_slice.ensures.value c.in-Err.ensures in
    refused {A = Global} saw c.args.duplex.now c.find_head.new.duplex c.in-Err.fault c.args.limit count bytes room said found

pub returns-in-Ok-read_body : goal.returns-in-Ok-read_body
returns-in-Ok-read_body g c =
    let saw = g.D.Duplex.saw in
    let bytes = c.find_head.new.buffer in
    let count = c.in-Ok.count in
    let size = c.in-Ok-judge.size in
    let room : length bytes ≤ 16384 = omega (arith, c.as_slice.ensures.fits) in
    let found = subst (λ (b : List ℕ). Ran saw (AwaitsHead b) c.args.duplex.now c.find_head.new.duplex (FindsHead (Ok count) b bytes)) c.requires c.in-Ok.ensures.ran in
    let said = subst (λ (b : List ℕ). HeadAnswers (Ok size) c.args.limit (take count b)) c.as_slice.ensures.value c.in-Ok-judge.ensures in
    let result : Result (Vec ℕ Global) BodyFault = Ok c.in-Ok-read_body.body in
    let read = subst (λ (b : List ℕ). Ran saw (AwaitsBody b size) c.find_head.new.duplex c.read_body.new.duplex (ReadsBody result size b c.read_body.new.buffer)) c.consume.ensures c.in-Ok-read_body.ensures in
    with_body saw c.args.duplex.now c.find_head.new.duplex c.read_body.new.duplex result c.args.limit size count bytes c.read_body.new.buffer room said found read

pub returns-in-Err-read_body : goal.returns-in-Err-read_body
returns-in-Err-read_body g c =
    let saw = g.D.Duplex.saw in
    let bytes = c.find_head.new.buffer in
    let count = c.in-Ok.count in
    let size = c.in-Ok-judge.size in
    let room : length bytes ≤ 16384 = omega (arith, c.as_slice.ensures.fits) in
    let found = subst (λ (b : List ℕ). Ran saw (AwaitsHead b) c.args.duplex.now c.find_head.new.duplex (FindsHead (Ok count) b bytes)) c.requires c.in-Ok.ensures.ran in
    let said = subst (λ (b : List ℕ). HeadAnswers (Ok size) c.args.limit (take count b)) c.as_slice.ensures.value c.in-Ok-judge.ensures in
    let result : Result (Vec ℕ Global) BodyFault = Err c.in-Err-read_body.fault in
    let read = subst (λ (b : List ℕ). Ran saw (AwaitsBody b size) c.find_head.new.duplex c.read_body.new.duplex (ReadsBody result size b c.read_body.new.buffer)) c.consume.ensures c.in-Err-read_body.ensures in
    let P : AnswerFault → Type 0 = λ f. Ran saw (AwaitsAnswer c.args.limit) c.args.duplex.now c.read_body.new.duplex (ReadsAnswer {A = Global} (Err f) c.args.limit) in
    subst P (sym c.without_body.ensures)
    (with_body saw c.args.duplex.now c.find_head.new.duplex c.read_body.new.duplex result c.args.limit size count bytes c.read_body.new.buffer room said found read)
