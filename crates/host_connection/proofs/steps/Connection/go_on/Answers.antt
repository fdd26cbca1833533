use Rattle.host_connection.proofs.Stepping.{from_metered, step_else, step_full, step_goes, step_waits, to_metered}
use Rattle.host_connection.proofs.steps.Connection.go_on.Goals as goal

pub returns-then-is_used_up : goal.returns-then-is_used_up
returns-then-is_used_up g c =
    let answers = g.S.Service.answers in
    let saw = g.D.Duplex.saw in
    let waits = g.D.Duplex.waits in
    let new = c.go_through.new.duplex in
    let led = c.in-Waits.ensures.led in
    record {
      leads = λ start first so. (
          let up = to_metered answers saw waits start c.args.duplex.now.stream c.begin.new.self first c.args.service.now c.args.self.now c.begin.ensures.stream so in
          from_metered answers saw waits start up.0 new first c.go_through.new.service c.go_through.new.self up.1 (c.in-Waits.ensures.leads up.0 first up.2).0
          );
      goes = step_full saw c.args.duplex.now.stream c.begin.new.self new led.0 _ _ _ c.begin.ensures.stream c.begin.ensures.reads c.begin.ensures.writes led.1 (c.is_used_up.ensures.0 c.if-is_used_up.true) c.in-Waits.ensures.advances.falls;
      tells = c.in-Waits.ensures.advances.tells;
      memory = c.in-Waits.ensures.advances.memory;
      asks = c.in-Waits.ensures.asks;
      later = λ is. cc;
      grows = c.in-Waits.ensures.grows;
    }

pub returns-else-is_used_up : goal.returns-else-is_used_up
returns-else-is_used_up g c =
    let answers = g.S.Service.answers in
    let saw = g.D.Duplex.saw in
    let waits = g.D.Duplex.waits in
    let new = c.go_through.new.duplex in
    let led = c.in-Waits.ensures.led in
    record {
      leads = λ start first so. (
          let up = to_metered answers saw waits start c.args.duplex.now.stream c.begin.new.self first c.args.service.now c.args.self.now c.begin.ensures.stream so in
          step_waits answers saw waits start up.0 new first c.go_through.new.service c.go_through.new.self c.in-Waits.wants up.1 (λ none. cc (c.if-is_used_up.false, c.is_used_up.ensures.1 none))
          (c.in-Waits.ensures.leads up.0 first up.2)
          );
      goes = step_goes saw c.args.duplex.now.stream c.begin.new.self new led.0 _ _ _ c.begin.ensures.stream c.begin.ensures.reads c.begin.ensures.writes led.1 c.in-Waits.ensures.advances.falls;
      tells = c.in-Waits.ensures.advances.tells;
      memory = c.in-Waits.ensures.advances.memory;
      asks = c.in-Waits.ensures.asks;
      later = λ is. cc;
      grows = c.in-Waits.ensures.grows;
    }

pub returns-in_default : goal.returns-in_default
returns-in_default g c =
    let answers = g.S.Service.answers in
    let saw = g.D.Duplex.saw in
    let waits = g.D.Duplex.waits in
    let new = c.go_through.new.duplex in
    let led = c.go_through.ensures.led in
    record {
      leads = λ start first so. (
          let up = to_metered answers saw waits start c.args.duplex.now.stream c.begin.new.self first c.args.service.now c.args.self.now c.begin.ensures.stream so in
          step_else answers saw waits start up.0 new first c.go_through.new.service c.go_through.new.self c.go_through.result up.1 c.in_default.not-Waits (c.go_through.ensures.leads up.0 first up.2)
          );
      goes = step_goes saw c.args.duplex.now.stream c.begin.new.self new led.0 _ _ _ c.begin.ensures.stream c.begin.ensures.reads c.begin.ensures.writes led.1 c.go_through.ensures.advances.falls;
      tells = c.go_through.ensures.advances.tells;
      memory = c.go_through.ensures.advances.memory;
      asks = c.go_through.ensures.asks;
      later = c.go_through.ensures.later;
      grows = c.go_through.ensures.grows;
    }
