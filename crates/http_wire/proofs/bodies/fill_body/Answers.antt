use Rattle.std.proofs.Common.{◌≡◌, ◌<◌, [], ◌++◌, ◌∙◌, ℕ, List, Result, Err, Global, length, rules, arith, subst, sym}
use Rattle.http_wire.specs.declared.faults.BodyFault.{BodyFault}
use Rattle.http_wire.specs.declared.faults.BodyFault.TheVariants as body_fault
use Rattle.http_wire.specs.declared.halts.Halt.{Halt}
use Rattle.http_wire.specs.declared.halts.Halt.TheVariants.{Failed}
use Rattle.http_wire.specs.declared.sources.ReadFailed.{ReadFailed}
use Rattle.http_wire.specs.Halting.{Halts, TriesBody}
use Rattle.http_wire.specs.Timing.{ReadFails, Ran}
use Rattle.http_wire.specs.Wires.{AwaitsBody}
use Rattle.http_wire.proofs.BodyReads.{none_read, read_more, no_memory, read_failed, input_ended, none_short, would_wait}
use Rattle.http_wire.proofs.bodies.fill_body.Goals as goal

pub returns-in_err-move_front-clause-ran : goal.returns-in_err-move_front-clause-ran
returns-in_err-move_front-clause-ran g c =
    let before : List ℕ = c.args.body.now.items ++ c.args.buffer.now in
    let body = c.move_front.new.body in
    let P : Result (Unit {0}) (Halt BodyFault) → Type 0 = λ r. Ran g.D.Duplex.saw (AwaitsBody before c.args.size) c.args.duplex.now c.args.duplex.now
    (TriesBody {A = Global} r c.args.size before body c.move_front.new.buffer) in
    let is : c.from_residual.result ≡ Err (Failed body_fault.OutOfMemory) = search rules in
    let less : length body.items < c.args.size = search (rules, arith) in
    subst P (sym is) (no_memory {A = Global} g.D.Duplex.saw c.args.duplex.now c.args.duplex.now c.args.size before body.items c.move_front.new.buffer less
    (none_read g.D.Duplex.saw c.args.duplex.now c.args.size before body.items c.move_front.new.buffer c.move_front.ensures.moved))

pub returns-in-Err-Failed-clause-ran : goal.returns-in-Err-Failed-clause-ran
returns-in-Err-Failed-clause-ran g c =
    let seen = c.reads in
    let before : List ℕ = c.args.body.now.items ++ c.args.buffer.now in
    let less : length seen.body.items < c.args.size = search (rules, arith) in
    let none : seen.buffer ≡ [] = search (rules, arith) in
    let P : Halt ReadFailed → Type 0 = λ why. Halts g.D.Duplex.saw g.D.Duplex.waits ReadFails seen.duplex c.fill.new.duplex why in
    read_failed {A = Global} g.D.Duplex.saw c.args.duplex.now seen.duplex c.fill.new.duplex c.args.size before seen.body.items seen.buffer c.fill.new.self
    seen.invariant.so none less c.in-Err-Failed.ensures.err.0 (subst P c.in-Err-Failed.field-0-is c.in-Err-Failed.ensures.err.1)

pub returns-in-Err-WouldWait-clause-ran : goal.returns-in-Err-WouldWait-clause-ran
returns-in-Err-WouldWait-clause-ran g c =
    let seen = c.reads in
    let before : List ℕ = c.args.body.now.items ++ c.args.buffer.now in
    let P : Halt ReadFailed → Type 0 = λ why. Halts g.D.Duplex.saw g.D.Duplex.waits ReadFails seen.duplex c.fill.new.duplex why in
    would_wait g.D.Duplex.saw c.args.duplex.now seen.duplex c.fill.new.duplex c.args.size before seen.body.items seen.buffer c.fill.new.self
    seen.invariant.so c.in-Err-WouldWait.ensures.err.0 (subst P c.in-Err-WouldWait.field-0-is c.in-Err-WouldWait.ensures.err.1).1

pub returns-in-Err-WouldWait-clause-short : goal.returns-in-Err-WouldWait-clause-short
returns-in-Err-WouldWait-clause-short g c = λ waits. (
    let seen = c.reads in
    let less : length seen.body.items < c.args.size = search (rules, arith) in
    let none : seen.buffer ≡ [] = search (rules, arith) in
    none_short seen.body.items c.fill.new.self c.args.size (c.in-Err-WouldWait.ensures.err.0 ∙ none) less
    )

pub returns-then-came-eq0-clause-ran : goal.returns-then-came-eq0-clause-ran
returns-then-came-eq0-clause-ran g c =
    let seen = c.reads in
    let before : List ℕ = c.args.body.now.items ++ c.args.buffer.now in
    let grown = c.in-Ok.ensures.grown in
    let less : length seen.body.items < c.args.size = search (rules, arith) in
    let none : seen.buffer ≡ [] = search (rules, arith) in
    input_ended {A = Global} g.D.Duplex.saw c.args.duplex.now seen.duplex c.fill.new.duplex c.args.size before seen.body.items seen.buffer grown.0 c.fill.new.self
    seen.invariant.so none less grown.1 (grown.2 ∙ c.if-came-eq0.true) grown.3

pub reads-preserved : goal.reads-preserved
reads-preserved g c =
    let seen = c.reads in
    let before : List ℕ = c.args.body.now.items ++ c.args.buffer.now in
    let grown = c.in-Ok.ensures.grown in
    let moved = c.move_front-in-reads in
    let less : length seen.body.items < c.args.size = search (rules, arith) in
    let none : seen.buffer ≡ [] = search (rules, arith) in
    record {
      so = read_more g.D.Duplex.saw c.args.duplex.now seen.duplex c.fill.new.duplex c.args.size before seen.body.items seen.buffer grown.0 c.fill.new.self
          moved.new.body.items moved.new.buffer seen.invariant.so none less grown.1 (omega (arith, grown.2, c.if-came-eq0.false)) grown.3 moved.ensures.moved;
      within = moved.ensures.within;
      all = c.in_ok-move_front-2.ensures.all;
    }

pub returns-in_err-move_front-2-clause-ran : goal.returns-in_err-move_front-2-clause-ran
returns-in_err-move_front-2-clause-ran g c =
    let seen = c.reads in
    let before : List ℕ = c.args.body.now.items ++ c.args.buffer.now in
    let grown = c.in-Ok.ensures.grown in
    let moved = c.move_front-in-reads in
    let less : length seen.body.items < c.args.size = search (rules, arith) in
    let none : seen.buffer ≡ [] = search (rules, arith) in
    let so = read_more g.D.Duplex.saw c.args.duplex.now seen.duplex c.fill.new.duplex c.args.size before seen.body.items seen.buffer grown.0 c.fill.new.self
    moved.new.body.items moved.new.buffer seen.invariant.so none less grown.1 (omega (arith, grown.2, c.if-came-eq0.false)) grown.3 moved.ensures.moved in
    let P : Result (Unit {0}) (Halt BodyFault) → Type 0 = λ r. Ran g.D.Duplex.saw (AwaitsBody before c.args.size) c.args.duplex.now c.fill.new.duplex
    (TriesBody {A = Global} r c.args.size before moved.new.body moved.new.buffer) in
    let is : c.from_residual-in_err-move_front-2.result ≡ Err (Failed body_fault.OutOfMemory) = search rules in
    let cut : length moved.new.body.items < c.args.size = search (rules, arith) in
    subst P (sym is) (no_memory {A = Global} g.D.Duplex.saw c.args.duplex.now c.fill.new.duplex c.args.size before moved.new.body.items moved.new.buffer cut so)
