use Rattle.std.proofs.Common.{subst}
use Rattle.std.specs.Io.KnownBytes.{Appends}
use Rattle.http_wire.proofs.Trails.{all_told}
use Rattle.peer_link.proofs.Leading.{head_awaited, head_read, nothing_put, read_failed}
use Rattle.peer_link.proofs.connections.try_read_head.Goals as goal

pub returns-clause-kept : goal.returns-clause-kept
returns-clause-kept g c =
    let d = g.D.Duplex in
    let ran = c.try_read_head.ensures.ran in
    let told = all_told d.saw d.left d.held d.read_fails d.write_fails g.met.D.Duplex.told c.args.duplex.now c.try_read_head.new.duplex ran.events ran.steps in
    subst (Appends (d.held c.args.duplex.now) (d.held c.try_read_head.new.duplex))
    (nothing_put c.try_read_head.result c.args.wire.now c.try_read_head.new.self ran.events ran.claimed) told.taken

pub returns-clause-failed : goal.returns-clause-failed
returns-clause-failed g c = λ failed. (
    let d = g.D.Duplex in
    let ran = c.try_read_head.ensures.ran in
    let told = all_told d.saw d.left d.held d.read_fails d.write_fails g.met.D.Duplex.told c.args.duplex.now c.try_read_head.new.duplex ran.events ran.steps in
    told.read (read_failed c.try_read_head.result c.args.wire.now c.try_read_head.new.self ran.events failed ran.claimed)
    )

pub returns-clause-head : goal.returns-clause-head
returns-clause-head g c =
    let d = g.D.Duplex in
    let ran = c.try_read_head.ensures.ran in
    let told = all_told d.saw d.left d.held d.read_fails d.write_fails g.met.D.Duplex.told c.args.duplex.now c.try_read_head.new.duplex ran.events ran.steps in
    head_read c.try_read_head.result c.args.wire.now c.try_read_head.new.self ran.events (d.left c.args.duplex.now) (d.left c.try_read_head.new.duplex) ran.claimed told.gives

pub returns-clause-came : goal.returns-clause-came
returns-clause-came g c = λ waits. (
    let d = g.D.Duplex in
    let ran = c.try_read_head.ensures.ran in
    let told = all_told d.saw d.left d.held d.read_fails d.write_fails g.met.D.Duplex.told c.args.duplex.now c.try_read_head.new.duplex ran.events ran.steps in
    head_awaited c.try_read_head.result c.args.wire.now c.try_read_head.new.self ran.events (d.left c.args.duplex.now) (d.left c.try_read_head.new.duplex) waits ran.claimed told.gives
    )
