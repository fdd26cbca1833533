use Rattle.std.proofs.Common.{◌<◌, List, ℕ, refl, sym, subst, ap, arith, length, ◌∙◌}
use Rattle.http_wire.specs.declared.halts.Halt.{Halt}
use Rattle.http_wire.specs.declared.sources.ReadFailed.{ReadFailed}
use Rattle.http_wire.specs.Halting.{Halts}
use Rattle.http_wire.specs.HeadText.{CutShort}
use Rattle.http_wire.specs.Scanning.{HasSearched}
use Rattle.http_wire.specs.Timing.{ReadFails}
use Rattle.http_wire.proofs.HeadReads.{none_read, read_more, found, too_long, read_failed, input_ended, short_there, would_wait}
use Rattle.http_wire.proofs.Searches.{searched_more, scanned_shown}
use Rattle.http_wire.proofs.wires.find_head.Goals as goal

pub reads-init : goal.reads-init
reads-init g c = record {
  scan = scanned_shown c.as_slice.result.now c.args.buffer.now c.go_on.new.self.state c.go_on.new.self.scanned c.as_slice.ensures.value c.go_on.ensures.searched c.go_on.ensures.through;
  so = none_read g.D.Duplex.saw c.args.duplex.now c.args.buffer.now;
}

pub returns-then-as_slice-eq-HEAD_LIMIT-clause-ran : goal.returns-then-as_slice-eq-HEAD_LIMIT-clause-ran
returns-then-as_slice-eq-HEAD_LIMIT-clause-ran g c =
    let seen = c.reads in
    too_long g.D.Duplex.saw c.args.duplex.now seen.duplex c.args.buffer.now seen.buffer seen.search.state seen.search.scanned seen.invariant.so seen.invariant.scan
    (sym c.reads-test.ensures) (ap length (sym c.as_slice-in-reads.ensures.value) ∙ c.if-as_slice-eq-HEAD_LIMIT.true)

pub returns-then-as_slice-eq-HEAD_LIMIT-clause-searched : goal.returns-then-as_slice-eq-HEAD_LIMIT-clause-searched
returns-then-as_slice-eq-HEAD_LIMIT-clause-searched g c = c.reads.invariant.scan.searched

pub returns-in-Err-Failed-clause-ran : goal.returns-in-Err-Failed-clause-ran
returns-in-Err-Failed-clause-ran g c =
    let seen = c.reads in
    let room : length seen.buffer < 16384 = omega (arith, ap length c.as_slice-in-reads.ensures.value) in
    let P : Halt ReadFailed → Type 0 = λ why. Halts g.D.Duplex.saw g.D.Duplex.waits ReadFails seen.duplex c.fill.new.duplex why in
    read_failed g.D.Duplex.saw c.args.duplex.now seen.duplex c.fill.new.duplex c.args.buffer.now seen.buffer c.fill.new.self seen.search.state seen.search.scanned
    seen.invariant.so seen.invariant.scan (sym c.reads-test.ensures) room c.in-Err-Failed.ensures.err.0 (subst P c.in-Err-Failed.field-0-is c.in-Err-Failed.ensures.err.1)

pub returns-in-Err-Failed-clause-searched : goal.returns-in-Err-Failed-clause-searched
returns-in-Err-Failed-clause-searched g c =
    let seen = c.reads in
    subst (λ (b : List ℕ). HasSearched b seen.search.state seen.search.scanned) (sym c.in-Err-Failed.ensures.err.0) seen.invariant.scan.searched

pub returns-in-Err-WouldWait-clause-ran : goal.returns-in-Err-WouldWait-clause-ran
returns-in-Err-WouldWait-clause-ran g c =
    let seen = c.reads in
    let P : Halt ReadFailed → Type 0 = λ why. Halts g.D.Duplex.saw g.D.Duplex.waits ReadFails seen.duplex c.fill.new.duplex why in
    would_wait g.D.Duplex.saw c.args.duplex.now seen.duplex c.fill.new.duplex c.args.buffer.now seen.buffer c.fill.new.self seen.invariant.so
    c.in-Err-WouldWait.ensures.err.0 (subst P c.in-Err-WouldWait.field-0-is c.in-Err-WouldWait.ensures.err.1).1

pub returns-in-Err-WouldWait-clause-short : goal.returns-in-Err-WouldWait-clause-short
returns-in-Err-WouldWait-clause-short g c = λ waits. (
    let seen = c.reads in
    let room : length seen.buffer < 16384 = omega (arith, ap length c.as_slice-in-reads.ensures.value) in
    subst CutShort (sym c.in-Err-WouldWait.ensures.err.0) (short_there seen.buffer seen.search.state seen.search.scanned seen.invariant.scan (sym c.reads-test.ensures) room)
    )

pub returns-in-Err-WouldWait-clause-searched : goal.returns-in-Err-WouldWait-clause-searched
returns-in-Err-WouldWait-clause-searched g c =
    let seen = c.reads in
    subst (λ (b : List ℕ). HasSearched b seen.search.state seen.search.scanned) (sym c.in-Err-WouldWait.ensures.err.0) seen.invariant.scan.searched

pub returns-then-count-eq0-clause-ran : goal.returns-then-count-eq0-clause-ran
returns-then-count-eq0-clause-ran g c =
    let seen = c.reads in
    let room : length seen.buffer < 16384 = omega (arith, ap length c.as_slice-in-reads.ensures.value) in
    let grown = c.in-Ok.ensures.grown in
    input_ended g.D.Duplex.saw c.args.duplex.now seen.duplex c.fill.new.duplex c.args.buffer.now seen.buffer grown.0 c.fill.new.self seen.search.state seen.search.scanned
    seen.invariant.so seen.invariant.scan (sym c.reads-test.ensures) room grown.1 (grown.2 ∙ c.if-count-eq0.true) grown.3

pub returns-then-count-eq0-clause-searched : goal.returns-then-count-eq0-clause-searched
returns-then-count-eq0-clause-searched g c =
    let seen = c.reads in
    let grown = c.in-Ok.ensures.grown in
    searched_more seen.buffer grown.0 c.fill.new.self c.fill.new.self seen.search.state seen.search.scanned grown.1 refl seen.invariant.scan.searched

pub go_on-requires-in-reads : goal.go_on-requires-in-reads
go_on-requires-in-reads g c =
    let seen = c.reads in
    let grown = c.in-Ok.ensures.grown in
    searched_more seen.buffer grown.0 c.fill.new.self c.as_slice-in-reads-2.result.now seen.search.state seen.search.scanned grown.1 c.as_slice-in-reads-2.ensures.value
    seen.invariant.scan.searched

pub reads-preserved : goal.reads-preserved
reads-preserved g c =
    let seen = c.reads in
    let room : length seen.buffer < 16384 = omega (arith, ap length c.as_slice-in-reads.ensures.value) in
    let grown = c.in-Ok.ensures.grown in
    record {
      scan = scanned_shown c.as_slice-in-reads-2.result.now c.fill.new.self c.go_on-in-reads.new.self.state c.go_on-in-reads.new.self.scanned c.as_slice-in-reads-2.ensures.value
          c.go_on-in-reads.ensures.searched c.go_on-in-reads.ensures.through;
      so = read_more g.D.Duplex.saw c.args.duplex.now seen.duplex c.fill.new.duplex c.args.buffer.now seen.buffer grown.0 c.fill.new.self seen.search.state seen.search.scanned
          seen.invariant.so seen.invariant.scan (sym c.reads-test.ensures) room grown.1 (omega (arith, grown.2, c.if-count-eq0.false)) grown.3;
    }

pub returns-clause-ran : goal.returns-clause-ran
returns-clause-ran g c =
    let seen = c.reads in
    found g.D.Duplex.saw c.args.duplex.now seen.duplex c.args.buffer.now seen.buffer seen.search.state seen.search.scanned seen.invariant.so seen.invariant.scan (sym c.reads-test.ensures)

pub returns-clause-searched : goal.returns-clause-searched
returns-clause-searched g c = c.reads.invariant.scan.searched
