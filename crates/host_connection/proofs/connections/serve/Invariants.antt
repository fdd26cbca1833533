use Rattle.host_connection.specs.Advancing.{phases_left}
use Rattle.host_connection.specs.Carrying.{Carries, MayWait}
use Rattle.host_connection.proofs.connections.serve.Given as goal

abbrev pub invariant-phases : goal.invariant-phases
invariant-phases g l = record {
  so : Carries g.S.Service.answers g.D.Duplex.saw (MayWait g.D.Duplex.waits) l.fn.duplex l.fn.service l.duplex l.service l.connection;
  grown : g.S.Service.grows l.fn.service l.service;
}

abbrev pub decreases-phases : goal.decreases-phases
decreases-phases g l = phases_left l.connection.number l.connection.phase
