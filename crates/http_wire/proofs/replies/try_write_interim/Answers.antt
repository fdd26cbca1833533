use Rattle.std.proofs.Common.{◌≡◌, Result, Err, arith, rules, subst, sym}
use Rattle.http_wire.specs.declared.halts.Halt.{Halt}
use Rattle.http_wire.specs.declared.sinks.WriteFailed.{WriteFailed}
use Rattle.http_wire.specs.Expectations.{continue_text}
use Rattle.http_wire.specs.Halting.{WritesFrom}
use Rattle.http_wire.specs.Timing.{NoRead, Ran}
use Rattle.http_wire.proofs.WritesFrom.{all_from, halted, none_from, write_further}
use Rattle.http_wire.proofs.replies.try_write_interim.Goals as goal

pub writes-init : goal.writes-init
writes-init g c = none_from g.D.Duplex.saw c.args.duplex.now continue_text c.args.at.now c.requires

pub returns-in_err-count-clause-ran : goal.returns-in_err-count-clause-ran
returns-in_err-count-clause-ran g c =
    let why = c.in_err-count.field-0.0 in
    let P : Result (Unit {0}) (Halt WriteFailed) → Type 0 = λ r. Ran g.D.Duplex.saw NoRead c.args.duplex.now c.write_some.new.self
    (WritesFrom r continue_text c.args.at.now c.writes.at) in
    let is : c.from_residual.result ≡ Err why = search rules in
    subst P (sym is) (halted g.D.Duplex.saw g.D.Duplex.waits c.args.duplex.now c.writes.duplex c.write_some.new.self why continue_text c.args.at.now c.writes.at
    c.writes.invariant c.writes-test.true c.in_err-count.ensures.seen)

pub writes-preserved : goal.writes-preserved
writes-preserved g c =
    write_further g.D.Duplex.saw c.args.duplex.now c.writes.duplex c.write_some.new.self continue_text c.args.at.now c.writes.at c.in_ok-count.count c.writes.invariant
    c.writes-test.true c.in_ok-count.ensures.bound c.in_ok-count.ensures.some c.in_ok-count.ensures.seen

pub returns-clause-ran : goal.returns-clause-ran
returns-clause-ran g c =
    all_from g.D.Duplex.saw c.args.duplex.now c.writes.duplex continue_text c.args.at.now c.writes.at c.writes.invariant (omega (arith, c.writes-test.false))
