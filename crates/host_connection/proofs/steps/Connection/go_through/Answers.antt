use Rattle.std.proofs.Common.{◌++◌, ◌∙◌, subst}
use Rattle.http_wire.proofs.Trails.{steps_joined}
use Rattle.host_connection.proofs.Again.{advanced_as}
use Rattle.host_connection.specs.Carrying.{AnswersOnce}
use Rattle.host_connection.proofs.steps.Connection.go_through.Goals as goal

pub returns-in-Some : goal.returns-in-Some
returns-in-Some g c = record {
  leads = λ start first so. c.in-Some.ensures.leads start first so;
  led = c.in-Some.ensures.led;
  advances = c.in-Some.ensures.advances;
  asks = c.in-Some.ensures.asks;
  later = λ is. absurd (c.in-Some.ensures.at_once is);
  grows = c.in-Some.ensures.grows;
}

pub returns-in-None : goal.returns-in-None
returns-in-None g c =
    let mid = c.recall.new.service in
    let same = c.in-None.ensures.none in
    record {
      leads = λ start first so. c.go_through_phases.ensures.leads start first (c.in-None.ensures.leads start first so);
      led = (
        c.go_through_phases.ensures.led.0 ++ c.in-None.ensures.led.0,
        steps_joined g.D.Duplex.saw c.args.duplex.now c.recall.new.duplex c.go_through_phases.new.duplex c.go_through_phases.ensures.led.0 c.in-None.ensures.led.0 c.in-None.ensures.led.1
            c.go_through_phases.ensures.led.1,
      );
      advances = advanced_as c.go_through_phases.result c.args.self.now.number c.recall.new.self.number c.go_through_phases.new.self.number c.args.self.now.phase c.recall.new.self.phase
          c.go_through_phases.new.self.phase c.in-None.ensures.advances c.go_through_phases.ensures.advances;
      asks = subst (λ h. AnswersOnce g.S.Service.answers h c.go_through_phases.new.service) same c.go_through_phases.ensures.asks;
      later = λ is. (
          let by = c.go_through_phases.ensures.later is in
          (by.0, by.1 ∙ same)
          );
      grows = subst (λ h. g.S.Service.grows h c.go_through_phases.new.service) same c.go_through_phases.ensures.grows;
    }
