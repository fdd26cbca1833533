use Rattle.host_connection.specs.Carrying.{MayWait}
use Rattle.host_connection.proofs.Carried.{new_connection}
use Rattle.host_connection.proofs.Walking.{never_held}
use Rattle.host_connection.proofs.connections.serve.Goals as goal

pub phases-init : goal.phases-init
phases-init g c = record {
  so = new_connection g.S.Service.answers g.D.Duplex.saw (MayWait g.D.Duplex.waits) c.args.duplex.now c.args.service.now c.args.connection.now c.requires;
  grown = g.met.S.Service.stays c.args.service.now;
}

pub phases-preserved-in-More : goal.phases-preserved-in-More
phases-preserved-in-More g c = record {
  so = c.in-More.ensures.leads c.args.duplex.now c.args.service.now c.phases.invariant.so;
  grown = g.met.S.Service.goes_on c.args.service.now c.phases.service c.pass.new.service c.phases.invariant.grown c.in-More.ensures.grows;
}

pub phases-preserved : goal.phases-preserved
phases-preserved g c = record {
  so = (c.in-Body.ensures.leads c.args.duplex.now c.args.service.now c.phases.invariant.so).0;
  grown = g.met.S.Service.goes_on c.args.service.now c.phases.service c.pass.new.service c.phases.invariant.grown c.in-Body.ensures.grows;
}

pub returns-in-Ended : goal.returns-in-Ended
returns-in-Ended g c = record {
  timely = (c.in-Ended.ensures.leads c.args.duplex.now c.args.service.now c.phases.invariant.so).0;
  grows = g.met.S.Service.goes_on c.args.service.now c.phases.service c.pass.new.service c.phases.invariant.grown c.in-Ended.ensures.grows;
}

pub unreachable-requires : goal.unreachable-requires
unreachable-requires g c =
    let led = c.in-Waits.ensures.leads c.args.duplex.now c.args.service.now c.phases.invariant.so in
    let k = c.pass.new.self in
    never_held g.S.Service.answers g.D.Duplex.saw g.D.Duplex.waits c.args.duplex.now c.pass.new.duplex c.args.service.now c.pass.new.service k.wire k.out k.number k.phase g.met.D.Steady.never_waits led.0 led.1
