use Rattle.std.proofs.Common.{List, ℕ, subst}
use Rattle.host_replies.specs.Bodies.{answer_of}
use Rattle.host_answers.specs.Answers.{AnswersBy}
use Rattle.host_server.specs.ServerHouses.{calls_of, failed_at, gave_at}
use Rattle.host_server.proofs.Counting.{answers_count}
use Rattle.host_server.proofs.Growing.{undone_at_once}
use Rattle.host_server.proofs.ServerAnswers.{answered_by}
use Rattle.host_server.proofs.answers.answer.Goals as goal

pub returns-clause-replied : goal.returns-clause-replied
returns-clause-replied g c =
    let did = g.S.Shelf.did in
    let failures = g.S.Shelf.failures in
    let old = c.args.server.now in
    let new = c.answer.new.house in
    let parts = c.args.request.now.head in
    let answer = answer_of c.answer.result in
    answered_by did failures old new parts c.args.request.now.body.items answer
    (subst (λ (body : List ℕ). AnswersBy (calls_of did failures) (gave_at did failures) (failed_at did failures) old parts body answer new) c.as_slice.ensures.value c.answer.ensures.by)

pub returns-clause-count : goal.returns-clause-count
returns-clause-count g c =
    answers_count g.S.Shelf.did g.S.Shelf.failures c.args.server.now c.answer.new.house c.args.request.now.head c.as_slice.result.now (answer_of c.answer.result) c.answer.ensures.by

pub returns-clause-undone : goal.returns-clause-undone
returns-clause-undone g c = λ before command site is undone.
    undone_at_once c.args.server.now.house c.answer.new.house.house before command site c.lawful.ensures c.answer.ensures.grows is undone
