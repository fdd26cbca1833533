use Rattle.std.proofs.Common.{◌∙◌, sym, subst}
use Rattle.httparse.specs.Grammar.{IsToken}
use Rattle.http_wire.proofs.Parsing.{same_tokens, something_said, on_err}
use Rattle.http_wire.proofs.heads.Head.parse.Goals as goal

-- the parser's method is a token, so `http` takes it
pub returns-in-Err-Invalid-clause-ok : goal.returns-in-Err-Invalid-clause-ok
returns-in-Err-Invalid-clause-ok c =
    let found = c.in-Ok.ensures.found in
    let token : IsToken c.of-2.result.now = subst IsToken (sym found.3.method ∙ sym c.of-2.ensures) found.1.lawful.method in
    let refused = c.in-Err-Invalid.ensures.invalid in
    absurd (refused.0 (cc) (same_tokens c.of-2.result.now token))

pub returns-in-Err-OutOfMemory-clause-memory : goal.returns-in-Err-OutOfMemory-clause-memory
returns-in-Err-OutOfMemory-clause-memory c =
    let found = c.in-Ok.ensures.found in
    something_said _ found.0 found.1 found.2

pub returns-in_err-fields-clause-memory : goal.returns-in_err-fields-clause-memory
returns-in_err-fields-clause-memory c =
    let found = c.in-Ok.ensures.found in
    on_err c.from_residual.result (something_said _ found.0 found.1 found.2)

pub returns-in_err-text-clause-memory : goal.returns-in_err-text-clause-memory
returns-in_err-text-clause-memory c =
    let found = c.in-Ok.ensures.found in
    on_err c.from_residual-in_err-text.result (something_said _ found.0 found.1 found.2)
