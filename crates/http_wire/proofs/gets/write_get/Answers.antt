use Rattle.std.proofs.Common.{List, ℕ, subst}
use Rattle.http_wire.specs.Answers.{get_text}
use Rattle.http_wire.specs.Sending.{WritesText}
use Rattle.http_wire.proofs.Trails.{all_told}
use Rattle.http_wire.proofs.Writes.{held_whole, held_front}
use Rattle.http_wire.proofs.gets.write_get.Goals as goal

pub returns-clause-ok : goal.returns-clause-ok
returns-clause-ok g c =
    let d = g.D.Duplex in
    let ran = c.write_pieces.ensures in
    let told = all_told d.saw d.left d.held d.read_fails d.write_fails g.met.D.Duplex.told c.args.duplex.now c.write_pieces.new.duplex ran.events ran.steps in
    let wrote = subst (λ (t : List ℕ). WritesText c.write_pieces.result (get_text t) ran.events) c.as_bytes.ensures.value ran.claimed in
    held_whole c.write_pieces.result (get_text c.args.path.now) ran.events (d.held c.args.duplex.now) (d.held c.write_pieces.new.duplex) wrote told.taken

pub returns-clause-fault : goal.returns-clause-fault
returns-clause-fault g c =
    let d = g.D.Duplex in
    let ran = c.write_pieces.ensures in
    let told = all_told d.saw d.left d.held d.read_fails d.write_fails g.met.D.Duplex.told c.args.duplex.now c.write_pieces.new.duplex ran.events ran.steps in
    let wrote = subst (λ (t : List ℕ). WritesText c.write_pieces.result (get_text t) ran.events) c.as_bytes.ensures.value ran.claimed in
    held_front c.write_pieces.result (get_text c.args.path.now) ran.events (d.held c.args.duplex.now) (d.held c.write_pieces.new.duplex) wrote told.taken
