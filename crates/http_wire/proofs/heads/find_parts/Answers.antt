use Rattle.std.proofs.Common.{◌≡◌, ◌≢◌, ◌∙◌, Some, sym, ap, length, arith, rules}
use Rattle.std.specs.Prelude.{slice_get}
use Rattle.std.proofs.lemmas.Bool.{true≢false}
use Rattle.http_wire.proofs.Parsing.{bad_from, bad_for_ever, served_from}
use Rattle.http_wire.proofs.heads.find_parts.Goals as goal

pub returns-then-eq-2-clause-found : goal.returns-then-eq-2-clause-found
returns-then-eq-2-clause-found c =
    let some = rw c.in-Ok-Complete.field-0-is at c.in-Ok-Complete.ensures.complete in
    let room : length c.parse_request.new.headers ≡ 64 = omega (arith, c.parse_request.auto.headers, c.requires.size) in
    let slash : slice_get c.of.result.now 0 ≡ Some 47 = search rules in
    served_from c.args.text.now c.parse_request.new.headers c.in-Ok-Complete.spans some.0 c.requires.whole some.1
    (ap (λ t. slice_get t 0) (sym c.of.ensures) ∙ slash)
    room

pub returns-else-eq-2-clause-fault : goal.returns-else-eq-2-clause-fault
returns-else-eq-2-clause-fault c =
    let some = rw c.in-Ok-Complete.field-0-is at c.in-Ok-Complete.ensures.complete in
    let room : length c.parse_request.new.headers ≡ 64 = omega (arith, c.parse_request.auto.headers, c.requires.size) in
    let none : slice_get c.of.result.now 0 ≢ Some 47 = search rules in
    bad_from c.args.text.now c.parse_request.new.headers c.in-Ok-Complete.spans some.0 some.1
    (λ path. none (ap (λ t. slice_get t 0) c.of.ensures ∙ path)) room

pub returns-else-eq-clause-fault : goal.returns-else-eq-clause-fault
returns-else-eq-clause-fault c =
    bad_for_ever c.args.text.now (c.in-Err.ensures.invalid (λ e. true≢false (sym (rw e at c.eq.ensures) ∙ c.if-eq.false)))
