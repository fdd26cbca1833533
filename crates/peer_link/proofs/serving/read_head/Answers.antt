use Rattle.std.proofs.Common.{subst}
use Rattle.std.specs.Io.KnownBytes.{Appends}
use Rattle.http_wire.proofs.Trails.{all_told}
use Rattle.peer_link.proofs.serving.read_head.Goals as goal

pub returns-clause-kept : goal.returns-clause-kept
returns-clause-kept g c =
    let d = g.D.Duplex in
    let ran = c.read_head.ensures.ran in
    let told = all_told d.saw d.left d.held d.read_fails d.write_fails g.met.D.Duplex.told c.args.duplex.now c.read_head.new.duplex ran.events ran.steps in
    subst (Appends (d.held c.args.duplex.now) (d.held c.read_head.new.duplex)) ran.claimed.nothing_put told.taken
