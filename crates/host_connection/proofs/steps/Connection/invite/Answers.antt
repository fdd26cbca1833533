use Rattle.std.proofs.Common.{Err, ap, arith, refl, subst, sym}
use Rattle.http_wire.specs.declared.halts.Halt.{Halt}
use Rattle.http_wire.specs.declared.sinks.WriteFailed.{WriteFailed}
use Rattle.http_wire.specs.Expectations.{continue_text}
use Rattle.http_wire.specs.Halting.{WritesFrom}
use Rattle.http_wire.specs.Timing.{NoRead, Ran}
use Rattle.host_connection.specs.declared.steps.Connection.{Connection}
use Rattle.host_connection.specs.declared.phases.Phase.TheVariants as phase
use Rattle.host_connection.specs.declared.steps.Progress.TheVariants as progress
use Rattle.host_connection.specs.declared.steps.Wants.TheVariants as wants
use Rattle.host_connection.specs.declared.stops.Stop.TheVariants as stop
use Rattle.host_connection.specs.Carrying.{Awaits, IsHeld, MayWait}
use Rattle.host_connection.proofs.Advancing.{at_new, inside, stop_advances}
use Rattle.host_connection.proofs.Carried.{at_connection, invited, not_invited, waits_in_invitation}
use Rattle.host_connection.proofs.steps.Connection.invite.Goals as goal

pub returns-in-Ok-clause-leads : goal.returns-in-Ok-clause-leads
returns-in-Ok-clause-leads g c = λ start first so. (
    let i = c.args.invitation in
    at_connection g.S.Service.answers g.D.Duplex.saw (MayWait g.D.Duplex.waits) start c.try_write_interim.new.duplex first c.args._service.now c.enter.new.self _ c.enter.ensures
    (invited g.S.Service.answers g.D.Duplex.saw start c.args.duplex.now c.try_write_interim.new.duplex first c.args._service.now c.args.self.now.number c.args.self.now.wire i.head i.size i.at
    c.try_write_interim.new.at c.new-body.result.items so c.in-Ok.ensures.ran c.new-body.ensures.items)
    )

pub returns-in-Err-Failed-clause-leads : goal.returns-in-Err-Failed-clause-leads
returns-in-Err-Failed-clause-leads g c = λ start first so. (
    let i = c.args.invitation in
    let P : Halt WriteFailed → Type 0 = λ why. Ran g.D.Duplex.saw NoRead c.args.duplex.now c.try_write_interim.new.duplex (WritesFrom (Err why) continue_text i.at c.try_write_interim.new.at) in
    at_connection g.S.Service.answers g.D.Duplex.saw (MayWait g.D.Duplex.waits) start c.try_write_interim.new.duplex first c.args._service.now c.enter-in-Err-Failed.new.self _ c.enter-in-Err-Failed.ensures
    (not_invited g.S.Service.answers g.D.Duplex.saw (MayWait g.D.Duplex.waits) start c.args.duplex.now c.try_write_interim.new.duplex first c.args._service.now c.args.self.now.number c.args.self.now.wire _ i.head i.size
    i.at c.try_write_interim.new.at _ c.after_stop.result so (subst P c.in-Err-Failed.field-0-is c.in-Err-Failed.ensures.ran) c.after_stop.ensures refl)
    )

pub returns-in-Err-WouldWait-clause-leads : goal.returns-in-Err-WouldWait-clause-leads
returns-in-Err-WouldWait-clause-leads g c = λ start first so. (
    let i = c.args.invitation in
    let P : Halt WriteFailed → Type 0 = λ why. Ran g.D.Duplex.saw NoRead c.args.duplex.now c.try_write_interim.new.duplex (WritesFrom (Err why) continue_text i.at c.try_write_interim.new.at) in (
      at_connection g.S.Service.answers g.D.Duplex.saw (MayWait g.D.Duplex.waits) start c.try_write_interim.new.duplex first c.args._service.now c.stay.new.self _ c.stay.ensures
          (waits_in_invitation g.S.Service.answers g.D.Duplex.saw start c.args.duplex.now c.try_write_interim.new.duplex first c.args._service.now c.args.self.now.number c.args.self.now.wire i.head i.size
          i.at c.try_write_interim.new.at so (subst P c.in-Err-WouldWait.field-0-is c.in-Err-WouldWait.ensures.ran)),
      subst (λ (k : Connection). IsHeld (g.D.Duplex.waits c.try_write_interim.new.duplex) k.out k.phase) (sym c.stay.ensures) (c.in-Err-WouldWait.ensures.waits (ap Err c.in-Err-WouldWait.field-0-is)),
      subst (λ (k : Connection). Awaits wants.Write k.wire k.out k.phase) (sym c.stay.ensures) (subst P c.in-Err-WouldWait.field-0-is c.in-Err-WouldWait.ensures.ran).claimed.ends.1,
    )
    )

pub returns-in-Ok-clause-advances : goal.returns-in-Ok-clause-advances
returns-in-Ok-clause-advances g c =
    at_new progress.More c.args.self.now.number (phase.Invite c.args.invitation) c.enter.new.self _ c.enter.ensures
    (inside progress.More c.args.self.now.number (phase.Invite c.args.invitation) _ tt tt refl refl (omega arith))

pub returns-in-Err-Failed-clause-advances : goal.returns-in-Err-Failed-clause-advances
returns-in-Err-Failed-clause-advances g c =
    at_new progress.More c.args.self.now.number (phase.Invite c.args.invitation) c.enter-in-Err-Failed.new.self _ c.enter-in-Err-Failed.ensures
    (stop_advances c.args.self.now.number (phase.Invite c.args.invitation) c.after_stop.result stop.WriteFault (omega arith) c.after_stop.ensures)

pub returns-in-Err-WouldWait-clause-advances : goal.returns-in-Err-WouldWait-clause-advances
returns-in-Err-WouldWait-clause-advances g c =
    at_new (progress.Waits wants.Write) c.args.self.now.number (phase.Invite c.args.invitation) c.stay.new.self _ c.stay.ensures
    (inside (progress.Waits wants.Write) c.args.self.now.number (phase.Invite c.args.invitation) _ tt tt refl refl (omega arith))
