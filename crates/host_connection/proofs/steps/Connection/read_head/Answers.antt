use Rattle.std.proofs.Common.{◌≡◌, ◌∙◌, Err, ap, arith, refl, rules, subst, sym}
use Rattle.http_wire.specs.declared.faults.HeadFault.{HeadFault}
use Rattle.http_wire.specs.declared.halts.Halt.{Halt}
use Rattle.http_wire.specs.Gathering.{Gathered, nothing}
use Rattle.http_wire.specs.Halting.{TriesHead}
use Rattle.http_wire.specs.Timing.{Ran}
use Rattle.http_wire.specs.Wires.{AwaitsHead}
use Rattle.host_connection.specs.declared.phases.Phase.{Phase}
use Rattle.host_connection.specs.declared.steps.Connection.{Connection}
use Rattle.host_connection.specs.declared.phases.Phase.TheVariants as phase
use Rattle.host_connection.specs.declared.steps.Progress.TheVariants as progress
use Rattle.host_connection.specs.declared.steps.Wants.TheVariants as wants
use Rattle.host_connection.specs.declared.stops.Stop.{Stop}
use Rattle.host_connection.specs.Carrying.{Awaits, AwaitsBodyOf, Carried, FollowsStop, IsHeld, MayWait}
use Rattle.host_connection.specs.Stopping.{stop_of_head}
use Rattle.host_connection.proofs.Advancing.{at_both, at_new, at_old, awaits_body, head_advances, rests, stop_advances}
use Rattle.host_connection.proofs.Carried.{at_connection, head_came, no_head, waits_in_head}
use Rattle.host_connection.proofs.steps.Connection.read_head.Goals as goal

pub returns-then-size-gt0-clause-leads : goal.returns-then-size-gt0-clause-leads
returns-then-size-gt0-clause-leads g c = λ start first so. (
    let a = c.args.self.now in
    let then_out : Gathered → Connection = λ o. record { wire = c.try_read_head.new.self; out = o; number = a.number; phase = c.after_head.result } in
    let is : then_out c.begin.new.self ≡ then_out nothing = ap then_out c.begin.ensures in
    let P : Phase → Type 0 = λ p. Carried g.S.Service.answers g.D.Duplex.saw (MayWait g.D.Duplex.waits) start first c.args.duplex.now c.args._service.now a.wire a.out a.number p in (
      at_connection g.S.Service.answers g.D.Duplex.saw (MayWait g.D.Duplex.waits) start c.try_read_head.new.duplex first c.args._service.now (then_out c.begin.new.self) _ is
          (head_came g.S.Service.answers g.D.Duplex.saw (MayWait g.D.Duplex.waits) start c.args.duplex.now c.try_read_head.new.duplex first c.args._service.now a.number a.wire c.try_read_head.new.self a.out _
          c.in-Ok.head c.after_head.result (subst P c.requires so) c.in-Ok.ensures.ran c.after_head.ensures refl),
      subst (λ (k : Connection). AwaitsBodyOf c.size-size.result k.phase) (sym is)
          (awaits_body c.in-Ok.head c.size-size.result c.after_head.result c.after_head.ensures c.size-size.ensures (search rules)),
      search rules,
    )
    )

pub returns-else-size-gt0-clause-leads : goal.returns-else-size-gt0-clause-leads
returns-else-size-gt0-clause-leads g c = λ start first so. (
    let a = c.args.self.now in
    let then_out : Gathered → Connection = λ o. record { wire = c.try_read_head.new.self; out = o; number = a.number; phase = c.after_head.result } in
    let is : then_out c.begin.new.self ≡ then_out nothing = ap then_out c.begin.ensures in
    let P : Phase → Type 0 = λ p. Carried g.S.Service.answers g.D.Duplex.saw (MayWait g.D.Duplex.waits) start first c.args.duplex.now c.args._service.now a.wire a.out a.number p in
    at_connection g.S.Service.answers g.D.Duplex.saw (MayWait g.D.Duplex.waits) start c.try_read_head.new.duplex first c.args._service.now (then_out c.begin.new.self) _ is
    (head_came g.S.Service.answers g.D.Duplex.saw (MayWait g.D.Duplex.waits) start c.args.duplex.now c.try_read_head.new.duplex first c.args._service.now a.number a.wire c.try_read_head.new.self a.out _
    c.in-Ok.head c.after_head.result (subst P c.requires so) c.in-Ok.ensures.ran c.after_head.ensures refl)
    )

pub returns-in-Err-Failed-clause-leads : goal.returns-in-Err-Failed-clause-leads
returns-in-Err-Failed-clause-leads g c = λ start first so. (
    let a = c.args.self.now in
    let P : Phase → Type 0 = λ p. Carried g.S.Service.answers g.D.Duplex.saw (MayWait g.D.Duplex.waits) start first c.args.duplex.now c.args._service.now a.wire a.out a.number p in
    let Q : Halt HeadFault → Type 0 = λ why. Ran g.D.Duplex.saw (AwaitsHead a.wire) c.args.duplex.now c.try_read_head.new.duplex (TriesHead (Err why) a.wire c.try_read_head.new.self) in
    let why : c.of_head.result ≡ stop_of_head c.in-Err-Failed.fault = search rules in
    at_connection g.S.Service.answers g.D.Duplex.saw (MayWait g.D.Duplex.waits) start c.try_read_head.new.duplex first c.args._service.now c.enter.new.self _ c.enter.ensures
    (no_head g.S.Service.answers g.D.Duplex.saw (MayWait g.D.Duplex.waits) start c.args.duplex.now c.try_read_head.new.duplex first c.args._service.now a.number a.wire c.try_read_head.new.self a.out _
    c.in-Err-Failed.fault c.after_stop.result (subst P c.requires so) (subst Q c.in-Err-Failed.field-0-is c.in-Err-Failed.ensures.ran)
    (subst (λ (why : Stop). FollowsStop why c.after_stop.result) why c.after_stop.ensures) refl)
    )

pub returns-in-Err-WouldWait-clause-leads : goal.returns-in-Err-WouldWait-clause-leads
returns-in-Err-WouldWait-clause-leads g c = λ start first so. (
    let a = c.args.self.now in
    let P : Phase → Type 0 = λ p. Carried g.S.Service.answers g.D.Duplex.saw (MayWait g.D.Duplex.waits) start first c.args.duplex.now c.args._service.now a.wire a.out a.number p in
    let Q : Halt HeadFault → Type 0 = λ why. Ran g.D.Duplex.saw (AwaitsHead a.wire) c.args.duplex.now c.try_read_head.new.duplex (TriesHead (Err why) a.wire c.try_read_head.new.self) in
    let R : Phase → Type 0 = λ p. Carried g.S.Service.answers g.D.Duplex.saw (MayWait g.D.Duplex.waits) start first c.try_read_head.new.duplex c.args._service.now c.try_read_head.new.self a.out a.number p in (
      subst R (sym c.requires)
          (waits_in_head g.S.Service.answers g.D.Duplex.saw (MayWait g.D.Duplex.waits) start c.args.duplex.now c.try_read_head.new.duplex first c.args._service.now a.number a.wire c.try_read_head.new.self a.out a.out
          (subst P c.requires so) (subst Q c.in-Err-WouldWait.field-0-is c.in-Err-WouldWait.ensures.ran)),
      subst (λ (p : Phase). IsHeld (g.D.Duplex.waits c.try_read_head.new.duplex) a.out p) (sym c.requires) (c.in-Err-WouldWait.ensures.waits (ap Err c.in-Err-WouldWait.field-0-is)),
      subst (λ (p : Phase). Awaits wants.Read c.try_read_head.new.self a.out p) (sym c.requires) (c.in-Err-WouldWait.ensures.short (ap Err c.in-Err-WouldWait.field-0-is)),
    )
    )

pub returns-then-size-gt0-clause-advances : goal.returns-then-size-gt0-clause-advances
returns-then-size-gt0-clause-advances g c =
    let a = c.args.self.now in
    let then_out : Gathered → Connection = λ o. record { wire = c.try_read_head.new.self; out = o; number = a.number; phase = c.after_head.result } in
    let is : then_out c.begin.new.self ≡ then_out nothing = ap then_out c.begin.ensures in
    at_old _ a.number _ a.phase phase.Head _ c.requires (at_new _ a.number phase.Head (then_out c.begin.new.self) _ is
    (head_advances (progress.Body c.size-size.result) a.number c.after_head.result c.in-Ok.head c.after_head.ensures (λ old_left new_left fell. fell) c.size-size.ensures))

pub returns-else-size-gt0-clause-advances : goal.returns-else-size-gt0-clause-advances
returns-else-size-gt0-clause-advances g c =
    let a = c.args.self.now in
    let then_out : Gathered → Connection = λ o. record { wire = c.try_read_head.new.self; out = o; number = a.number; phase = c.after_head.result } in
    let is : then_out c.begin.new.self ≡ then_out nothing = ap then_out c.begin.ensures in
    let none : 0 ≡ c.size-size.result = omega arith in
    at_old _ a.number _ a.phase phase.Head _ c.requires (at_new _ a.number phase.Head (then_out c.begin.new.self) _ is
    (head_advances progress.More a.number c.after_head.result c.in-Ok.head c.after_head.ensures (λ old_left new_left fell. fell) (none ∙ c.size-size.ensures)))

pub returns-in-Err-Failed-clause-advances : goal.returns-in-Err-Failed-clause-advances
returns-in-Err-Failed-clause-advances g c =
    let a = c.args.self.now in
    at_old _ a.number _ a.phase phase.Head _ c.requires (at_new _ a.number phase.Head c.enter.new.self _ c.enter.ensures
    (stop_advances a.number phase.Head c.after_stop.result _ (omega arith) c.after_stop.ensures))

pub returns-in-Err-WouldWait-clause-advances : goal.returns-in-Err-WouldWait-clause-advances
returns-in-Err-WouldWait-clause-advances g c =
    let a = c.args.self.now in
    at_both _ a.number a.phase phase.Head c.requires (rests (progress.Waits wants.Read) a.number phase.Head refl (λ left. omega arith) (λ is. is))
