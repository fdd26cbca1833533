use Rattle.std.proofs.Common.{rules, ◌≡◌, Err}
use Rattle.range_reply.proofs.HeldInTurn.{not_alone}
use Rattle.range_reply.proofs.stretches.hold_alone.Goals as goal

pub returns-in_err-hold_one-clause-fault : goal.returns-in_err-hold_one-clause-fault
returns-in_err-hold_one-clause-fault g c =
    let why = c.in_err-hold_one.field-0.0 in
    let is : c.from_residual.result ≡ Err why = search rules in
    let fault = not_alone g.H.Holder.gave g.H.Holder.failed c.args.holder.now c.args.info.now.value c.args.stretch why c.hold_one.new.holder c.in_err-hold_one.ensures.fault in
    search (rules, fault)
