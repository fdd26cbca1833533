use Rattle.http_wire.specs.Replies.{sent_reply}
use Rattle.http_wire.proofs.Trails.{all_told}
use Rattle.http_wire.proofs.Writes.{held_whole, held_front, write_fault}
use Rattle.http_wire.proofs.replies.write_reply.Goals as goal

pub returns-clause-ok : goal.returns-clause-ok
returns-clause-ok g c =
    let d = g.D.Duplex in
    let ran = c.write_both.ensures in
    let told = all_told d.saw d.left d.held d.read_fails d.write_fails g.met.D.Duplex.told c.args.duplex.now c.write_both.new.duplex ran.events ran.steps in
    held_whole c.write_both.result (sent_reply g.P.BodyParts.texts c.args.head.now c.args.body) ran.events (d.held c.args.duplex.now) (d.held c.write_both.new.duplex) ran.claimed told.taken

pub returns-clause-fault : goal.returns-clause-fault
returns-clause-fault g c =
    let d = g.D.Duplex in
    let ran = c.write_both.ensures in
    let told = all_told d.saw d.left d.held d.read_fails d.write_fails g.met.D.Duplex.told c.args.duplex.now c.write_both.new.duplex ran.events ran.steps in
    held_front c.write_both.result (sent_reply g.P.BodyParts.texts c.args.head.now c.args.body) ran.events (d.held c.args.duplex.now) (d.held c.write_both.new.duplex) ran.claimed told.taken

pub returns-clause-cause : goal.returns-clause-cause
returns-clause-cause g c =
    let d = g.D.Duplex in
    let ran = c.write_both.ensures in
    let told = all_told d.saw d.left d.held d.read_fails d.write_fails g.met.D.Duplex.told c.args.duplex.now c.write_both.new.duplex ran.events ran.steps in
    write_fault d.write_fails c.write_both.result (sent_reply g.P.BodyParts.texts c.args.head.now c.args.body) ran.events ran.claimed told.write
