use Rattle.http_wire.specs.Timing.{ReadFails, WriteFails, IsLatest, all_put}
use Rattle.http_wire.proofs.Trails.{all_told}
use Rattle.host_connection.proofs.Served.{never_began}
use Rattle.host_connection.proofs.TimedConnections.{serves_told, never_ran}
use Rattle.host_connection.proofs.connections.serve_connection.Goals as goal

pub returns-in_default : goal.returns-in_default
returns-in_default g c =
    let d = g.D.Duplex in
    record {
      served = never_began g.S.Service.answers d.read_fails d.write_fails c.args.service.now (d.left c.args.duplex.now) (d.held c.args.duplex.now);
      timely = never_ran g.S.Service.answers d.saw c.args.duplex.now c.args.service.now;
      grows = g.met.S.Service.stays c.args.service.now;
    }

pub returns-clause-served : goal.returns-clause-served
returns-clause-served g c =
    let d = g.D.Duplex in
    let old = c.args.duplex.now in
    let new = c.serve-result.new.duplex in
    let ran = c.serve-result.ensures.timely in
    let told = all_told d.saw d.left d.held d.read_fails d.write_fails g.met.D.Duplex.told old new ran.events ran.steps in
    serves_told g.S.Service.answers (IsLatest ReadFails ran.events) (IsLatest WriteFails ran.events) d.read_fails d.write_fails c.serve-result.result c.args.service.now c.serve-result.new.service
    (d.left old) (d.held old) (d.held new) (all_put ran.events) told.read told.write (ran.claimed.serves (d.left old) (d.left new) told.gives) told.taken
