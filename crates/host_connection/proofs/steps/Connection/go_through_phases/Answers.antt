use Rattle.std.proofs.Common.{◌+◌, ◌++◌, ◌∙◌, [], inl, inr, refl}
use Rattle.http_wire.proofs.Trails.{steps_joined}
use Rattle.host_connection.specs.declared.steps.Progress.TheVariants as progress
use Rattle.host_connection.proofs.Advancing.{advanced_on}
use Rattle.host_connection.proofs.Asking.{asked_in_all, asked_on, not_asked}
use Rattle.host_connection.proofs.steps.Connection.go_through_phases.Goals as goal

pub phases-init : goal.phases-init
phases-init g c = record {
  so = λ start first so. so;
  led = ([], refl);
  advanced = inl (refl, refl, refl);
  asked = inl refl;
  grown = g.met.S.Service.stays c.args.service.now;
}

pub returns-in_default : goal.returns-in_default
returns-in_default g c = record {
  leads = λ start first so. c.pass.ensures.leads start first (c.phases.invariant.so start first so);
  led = (
    c.pass.ensures.led.0 ++ c.phases.invariant.led.0,
    steps_joined g.D.Duplex.saw c.args.duplex.now c.phases.duplex c.pass.new.duplex c.pass.ensures.led.0 c.phases.invariant.led.0 c.phases.invariant.led.1 c.pass.ensures.led.1,
  );
  advances = advanced_on c.pass.result c.phases.counter c.args.self.now.number c.phases.self.number c.pass.new.self.number c.args.self.now.phase c.phases.self.phase c.pass.new.self.phase
      c.phases.invariant.advanced c.pass.ensures.advances;
  asks = asked_in_all g.S.Service.answers c.args.service.now c.pass.new.service (c.phases.counter + 1) c.pass.new.self.phase
      (asked_on g.S.Service.answers c.args.service.now c.phases.service c.pass.new.service c.phases.counter c.phases.self.phase c.pass.new.self.phase c.phases.invariant.asked c.phases-test.true c.pass.ensures.asks);
  later = λ is. (
      let by = c.pass.ensures.later is in
      (by.0, by.1 ∙ not_asked g.S.Service.answers c.args.service.now c.phases.service c.phases.counter c.phases.self.phase c.phases.invariant.asked c.phases-test.true by.2)
      );
  grows = g.met.S.Service.goes_on c.args.service.now c.phases.service c.pass.new.service c.phases.invariant.grown c.pass.ensures.grows;
}

pub phases-preserved : goal.phases-preserved
phases-preserved g c = record {
  so = λ start first so. c.in-More.ensures.leads start first (c.phases.invariant.so start first so);
  led = (
    c.in-More.ensures.led.0 ++ c.phases.invariant.led.0,
    steps_joined g.D.Duplex.saw c.args.duplex.now c.phases.duplex c.pass.new.duplex c.in-More.ensures.led.0 c.phases.invariant.led.0 c.phases.invariant.led.1 c.in-More.ensures.led.1,
  );
  advanced = inr (advanced_on progress.More c.phases.counter c.args.self.now.number c.phases.self.number c.pass.new.self.number c.args.self.now.phase c.phases.self.phase c.pass.new.self.phase
      c.phases.invariant.advanced c.in-More.ensures.advances);
  asked = asked_on g.S.Service.answers c.args.service.now c.phases.service c.pass.new.service c.phases.counter c.phases.self.phase c.pass.new.self.phase c.phases.invariant.asked c.phases-test.true
      c.in-More.ensures.asks;
  grown = g.met.S.Service.goes_on c.args.service.now c.phases.service c.pass.new.service c.phases.invariant.grown c.in-More.ensures.grows;
}
