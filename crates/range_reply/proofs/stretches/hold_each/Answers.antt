use Rattle.std.proofs.Common.{rules, ◌≡◌, ◌+◌, Err, drop, get_or}
use Rattle.std.proofs.lemmas.List.{drop_more}
use Rattle.range_reply.proofs.HeldInTurn.{no_more, one_more}
use Rattle.range_reply.proofs.stretches.hold_each.Goals as goal

pub returns-in_err-hold_next-clause-fault : goal.returns-in_err-hold_next-clause-fault
returns-in_err-hold_next-clause-fault g c =
    let all = c.args.stretches.now in
    let k = c.loop-stretch.stretch-index in
    let why = c.in_err-hold_next.field-0.0 in
    let is : c.from_residual.result ≡ Err why = search rules in
    let fault = no_more g.H.Holder.gave c.args.holder.now c.args.info.now.value c.loop-stretch.holds.items (drop k all) (drop (k + 1) all) all c.loop-stretch.holder (get_or all k (0, 0))
    (drop_more all k (0, 0) c.loop-stretch-test.true) c.loop-stretch.invariant g.H.Holder.failed why c.hold_next.new.holder c.in_err-hold_next.ensures.fault in
    search (rules, fault)

pub loop-stretch-preserved : goal.loop-stretch-preserved
loop-stretch-preserved g c =
    let all = c.args.stretches.now in
    let k = c.loop-stretch.stretch-index in
    one_more g.H.Holder.gave c.args.holder.now c.args.info.now.value c.loop-stretch.holds.items (drop k all) (drop (k + 1) all) all c.loop-stretch.holder (get_or all k (0, 0))
    (drop_more all k (0, 0) c.loop-stretch-test.true) c.loop-stretch.invariant c.hold_next.new.holds.items c.hold_next.new.holder c.in_ok-hold_next.ensures.held
