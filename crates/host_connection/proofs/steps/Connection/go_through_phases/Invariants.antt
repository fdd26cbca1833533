use Rattle.std.specs.Prelude.{List}
use Rattle.http_wire.specs.Timing.{Event, Steps}
use Rattle.host_connection.specs.Carrying.{Carries, MayWait}
use Rattle.host_connection.proofs.Advancing.{AdvancedSoFar}
use Rattle.host_connection.proofs.steps.Connection.go_through_phases.Given as goal
use Rattle.host_connection.proofs.Asking.{AskedOnce}

abbrev pub invariant-phases : goal.invariant-phases
invariant-phases g l = record {
  so : (start : g.row.D.Denot) (first : g.row.S.Denot) → Carries g.S.Service.answers g.D.Duplex.saw (MayWait g.D.Duplex.waits) start first l.fn.duplex l.fn.service l.fn.self
      → Carries g.S.Service.answers g.D.Duplex.saw (MayWait g.D.Duplex.waits) start first l.duplex l.service l.self;
  led : (events : List Event) × Steps g.D.Duplex.saw l.fn.duplex events l.duplex;
  advanced : AdvancedSoFar l.counter l.fn.self.number l.fn.self.phase l.self.number l.self.phase;
  asked : AskedOnce g.S.Service.answers l.fn.service l.service l.counter l.self.phase;
  grown : g.S.Service.grows l.fn.service l.service;
}
