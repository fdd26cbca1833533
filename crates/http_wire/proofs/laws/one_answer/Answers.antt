use Rattle.http_wire.proofs.AnswerHeads.{brings_one, tells_one}
use Rattle.http_wire.proofs.OneAnswer.{begins_once, nothing_begins, one_begins}
use Rattle.http_wire.proofs.laws.one_answer.Goals as goal

pub returns-clause-tells : goal.returns-clause-tells
returns-clause-tells c = tells_one

pub returns-clause-brings : goal.returns-clause-brings
returns-clause-brings c = brings_one

pub returns-clause-one : goal.returns-clause-one
returns-clause-one c = one_begins

pub returns-clause-refused : goal.returns-clause-refused
returns-clause-refused c = begins_once

pub returns-clause-nothing : goal.returns-clause-nothing
returns-clause-nothing c = nothing_begins
