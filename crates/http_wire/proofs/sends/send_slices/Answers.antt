use Rattle.std.proofs.Common.{rules, arith, ◌≡◌, ◌<◌, [], Result, Err, length, subst, sym}
use Rattle.http_wire.specs.declared.halts.Halt.{Halt}
use Rattle.http_wire.specs.declared.sinks.WriteFailed.{WriteFailed}
use Rattle.http_wire.specs.Gathering.{WritesOn}
use Rattle.byte_slices.specs.Slices.{joined}
use Rattle.http_wire.specs.Timing.{NoRead, Ran}
use Rattle.http_wire.proofs.SlicesSent.{SlicesSoFar, halted_amid, one_write_more}
use Rattle.http_wire.proofs.sends.send_slices.Goals as goal

pub returns-in_err-count-clause-ran : goal.returns-in_err-count-clause-ran
returns-in_err-count-clause-ran g c =
    let why = c.in_err-count.field-0.0 in
    let before = c.args.slices.now in
    let left = joined c.writes.slices in
    let some : 0 < length left = search (rules, arith) in
    let P : Result (Unit {0}) (Halt WriteFailed) → Type 0 = λ r. Ran g.D.Duplex.saw NoRead c.args.duplex.now c.write_slices.new.self
    (WritesOn r [] c.args.sent.now c.writes.sent (joined before) left) in
    let is : c.from_residual.result ≡ Err why = search rules in
    subst P (sym is) (halted_amid g.D.Duplex.saw g.D.Duplex.waits c.args.duplex.now c.writes.duplex c.write_slices.new.self why c.args.sent.now c.writes.sent
    (joined before) left before.first.now c.writes.slices.first.now c.writes.invariant some c.in_err-count.ensures.seen)

pub writes-preserved : goal.writes-preserved
writes-preserved g c =
    let before = c.args.slices.now in
    let left = joined c.writes.slices in
    let n = c.in_ok-count.count in
    let new_first = c.skip.new.self.first.now in
    let some : 0 < length left = search (rules, arith) in
    subst (λ l. SlicesSoFar g.D.Duplex.saw c.args.duplex.now c.write_slices.new.self c.args.sent.now c.saturating_add.result (joined before) l before.first.now new_first)
    (sym c.skip.ensures.joined) (one_write_more g.D.Duplex.saw c.args.duplex.now c.writes.duplex c.write_slices.new.self c.args.sent.now c.writes.sent c.saturating_add.result
    (joined before) left before.first.now c.writes.slices.first.now new_first n c.writes.invariant c.in_ok-count.ensures.bound (c.in_ok-count.ensures.some some)
    c.in_ok-count.ensures.seen c.saturating_add.ensures c.skip.ensures.first)
