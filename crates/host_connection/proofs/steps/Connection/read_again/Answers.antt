use Rattle.std.proofs.Common.{◌≡◌, ◌++◌, Err, ap, arith, inl, inr, refl, rules, subst, sym}
use Rattle.http_wire.specs.declared.faults.HeadFault.{HeadFault}
use Rattle.http_wire.specs.declared.halts.Halt.{Halt}
use Rattle.http_wire.specs.Halting.{TriesToFind}
use Rattle.http_wire.specs.Timing.{Ran}
use Rattle.http_wire.specs.Wires.{AwaitsHead}
use Rattle.http_wire.proofs.Trails.{steps_joined}
use Rattle.host_connection.specs.declared.phases.Phase.{Phase}
use Rattle.host_connection.specs.declared.phases.Phase.TheVariants as phase
use Rattle.host_connection.specs.declared.steps.Connection.{Connection}
use Rattle.host_connection.specs.declared.steps.Progress.TheVariants as progress
use Rattle.host_connection.specs.declared.steps.Wants.TheVariants as wants
use Rattle.host_connection.specs.declared.stops.Stop.{Stop}
use Rattle.host_connection.specs.Carrying.{Awaits, Carried, FollowsStop, IsHeld, MayWait}
use Rattle.host_connection.specs.Stopping.{stop_of_head}
use Rattle.host_connection.proofs.Advancing.{at_both, at_new, at_old, rests, stop_advances}
use Rattle.host_connection.proofs.Again.{advances_again, asked_again, at_again, at_found, at_none, is_reply_again}
use Rattle.host_connection.proofs.Carried.{waits_in_head}
use Rattle.host_connection.proofs.steps.Connection.read_again.Goals as goal

pub begin_again-requires : goal.begin_again-requires
begin_again-requires g c = c.in-Ok.ensures.ran.claimed.found.1

-- the service keeps no reply to the head
pub returns-then-not-begin_again : goal.returns-then-not-begin_again
returns-then-not-begin_again g c =
    let a = c.args.self.now in
    let k = c.begin_again.new.self in
    let none = c.if-not-begin_again.ensures.begun in
    let is : k ≡ record { wire = c.try_find_head.new.self; out = a.out; number = a.number; phase = a.phase } = none.1 in
    record {
      leads = λ start first so. at_found g.S.Service.answers g.D.Duplex.saw (MayWait g.D.Duplex.waits) start c.args.duplex.now c.try_find_head.new.duplex first c.args.service.now c.begin_again.new.service
          c.in-Ok.count c.try_find_head.new.self a k c.requires.head c.in-Ok.ensures.ran is none.0 so;
      led = (c.in-Ok.ensures.ran.events, c.in-Ok.ensures.ran.steps);
      advances = inl (ap (λ (x : Connection). x.number) is, ap (λ (x : Connection). x.phase) is);
      asks = inl none.0;
      none = none.0;
      at_once = tt;
      grows = c.begin_again.ensures.grows;
    }

pub send-requires : goal.send-requires
send-requires g c =
    let again = c.if-not-begin_again.ensures.begun in
    is_reply_again g.S.Service.answers c.args.service.now c.begin_again.new.service _ c.begin_again.new.self.phase again.0

pub returns-else-not-begin_again : goal.returns-else-not-begin_again
returns-else-not-begin_again g c =
    let a = c.args.self.now in
    let k = c.begin_again.new.self in
    let answers = g.S.Service.answers in
    let again = c.if-not-begin_again.ensures.begun in
    let ran = c.in-Ok.ensures.ran in
    record {
      leads = λ start first so. c.send.ensures.leads start first
          (at_again answers g.D.Duplex.saw (MayWait g.D.Duplex.waits) start c.args.duplex.now c.try_find_head.new.duplex first c.args.service.now c.begin_again.new.service
          c.in-Ok.count c.try_find_head.new.self a k c.requires.head ran c.begin_again.ensures.fits again.0 again.1 again.2 c.begin_again.ensures.number c.requires.not_last so);
      led = (
        c.send.ensures.led.0 ++ ran.events,
        steps_joined g.D.Duplex.saw c.args.duplex.now c.try_find_head.new.duplex c.send.new.duplex c.send.ensures.led.0 ran.events ran.steps c.send.ensures.led.1,
      );
      advances = advances_again answers c.args.service.now c.begin_again.new.service _ c.send.result c.send.new.self.number c.send.new.self.phase a k c.requires.head again.0 c.begin_again.ensures.number
          c.send.ensures.advances;
      asks = inr (asked_again answers c.args.service.now c.begin_again.new.service _ k.phase again.0);
      none = tt;
      at_once = c.send.ensures.at_once;
      grows = c.begin_again.ensures.grows;
    }

pub returns-in-Err-Failed : goal.returns-in-Err-Failed
returns-in-Err-Failed g c =
    let a = c.args.self.now in
    let Q : Halt HeadFault → Type 0 = λ why. Ran g.D.Duplex.saw (AwaitsHead a.wire) c.args.duplex.now c.try_find_head.new.duplex (TriesToFind (Err why) a.wire c.try_find_head.new.self) in
    let ran = subst Q c.in-Err-Failed.field-0-is c.in-Err-Failed.ensures.ran in
    let why : c.of_head.result ≡ stop_of_head c.in-Err-Failed.fault = search rules in
    record {
      leads = λ start first so. at_none g.S.Service.answers g.D.Duplex.saw (MayWait g.D.Duplex.waits) start c.args.duplex.now c.try_find_head.new.duplex first c.args.service.now c.in-Err-Failed.fault
          c.try_find_head.new.self c.after_stop.result a c.enter.new.self c.requires.head ran c.enter.ensures (subst (λ (why : Stop). FollowsStop why c.after_stop.result) why c.after_stop.ensures) so;
      led = (ran.events, ran.steps);
      advances = inr (at_old _ a.number _ a.phase phase.Head _ c.requires.head (at_new _ a.number phase.Head c.enter.new.self _ c.enter.ensures
          (stop_advances a.number phase.Head c.after_stop.result _ (omega arith) c.after_stop.ensures)));
      asks = inl refl;
      none = refl;
      at_once = tt;
      grows = g.met.S.Service.stays c.args.service.now;
    }

pub returns-in-Err-WouldWait : goal.returns-in-Err-WouldWait
returns-in-Err-WouldWait g c =
    let a = c.args.self.now in
    let answers = g.S.Service.answers in
    let saw = g.D.Duplex.saw in
    let new = c.try_find_head.new.duplex in
    let wire = c.try_find_head.new.self in
    let Q : Halt HeadFault → Type 0 = λ why. Ran saw (AwaitsHead a.wire) c.args.duplex.now new (TriesToFind (Err why) a.wire wire) in
    let ran = subst Q c.in-Err-WouldWait.field-0-is c.in-Err-WouldWait.ensures.ran in
    record {
      leads = λ start first so. (
          let P : Phase → Type 0 = λ p. Carried answers saw (MayWait g.D.Duplex.waits) start first c.args.duplex.now c.args.service.now a.wire a.out a.number p in
          let R : Phase → Type 0 = λ p. Carried answers saw (MayWait g.D.Duplex.waits) start first new c.args.service.now wire a.out a.number p in (
            subst R (sym c.requires.head)
                (waits_in_head answers saw (MayWait g.D.Duplex.waits) start c.args.duplex.now new first c.args.service.now a.number a.wire wire a.out a.out (subst P c.requires.head so) ran),
            subst (λ (p : Phase). IsHeld (g.D.Duplex.waits new) a.out p) (sym c.requires.head) (c.in-Err-WouldWait.ensures.waits (ap Err c.in-Err-WouldWait.field-0-is)),
            subst (λ (p : Phase). Awaits wants.Read wire a.out p) (sym c.requires.head) (c.in-Err-WouldWait.ensures.short (ap Err c.in-Err-WouldWait.field-0-is)),
          )
          );
      led = (ran.events, ran.steps);
      advances = at_both _ a.number a.phase phase.Head c.requires.head (rests (progress.Waits wants.Read) a.number phase.Head refl (λ left. omega arith) (λ is. is));
      asks = inl refl;
      none = tt;
      at_once = λ is. cc;
      grows = g.met.S.Service.stays c.args.service.now;
    }
