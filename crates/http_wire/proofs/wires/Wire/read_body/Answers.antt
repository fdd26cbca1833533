use Rattle.std.proofs.Common.{List, ℕ, Option, subst}
use Rattle.std.specs.Io.KnownBytes.{prepend_known}
use Rattle.http_wire.specs.Wires.{BodyIsOf}
use Rattle.http_wire.proofs.StreamReads.{body_ok, body_part, body_ended, body_failed, body_memory}
use Rattle.http_wire.proofs.Trails.{all_told}
use Rattle.http_wire.proofs.wires.Wire.read_body.Goals as goal

pub returns-clause-ok : goal.returns-clause-ok
returns-clause-ok g c =
    let d = g.D.Duplex in
    let ran = c.read_body.ensures in
    let told = all_told d.saw d.left d.held d.read_fails d.write_fails g.met.D.Duplex.told c.args.duplex.now c.read_body.new.duplex ran.events ran.steps in
    let left = d.left c.args.duplex.now in
    let new : Option (List ℕ) = prepend_known c.read_body.new.buffer (d.left c.read_body.new.duplex) in
    let old : Option (List ℕ) = prepend_known c.args.self.now left in
    body_ok c.read_body.result c.args.count old new (subst (λ (b : List ℕ). BodyIsOf c.read_body.result c.args.count (prepend_known b left) new) c.self.view_is
    (ran.claimed.of_stream left (d.left c.read_body.new.duplex) told.gives))

pub returns-clause-part : goal.returns-clause-part
returns-clause-part g c =
    let d = g.D.Duplex in
    let ran = c.read_body.ensures in
    let told = all_told d.saw d.left d.held d.read_fails d.write_fails g.met.D.Duplex.told c.args.duplex.now c.read_body.new.duplex ran.events ran.steps in
    let left = d.left c.args.duplex.now in
    let new : Option (List ℕ) = prepend_known c.read_body.new.buffer (d.left c.read_body.new.duplex) in
    let old : Option (List ℕ) = prepend_known c.args.self.now left in
    body_part c.read_body.result c.args.count old new (subst (λ (b : List ℕ). BodyIsOf c.read_body.result c.args.count (prepend_known b left) new) c.self.view_is
    (ran.claimed.of_stream left (d.left c.read_body.new.duplex) told.gives))

pub returns-clause-ended : goal.returns-clause-ended
returns-clause-ended g c =
    let d = g.D.Duplex in
    let ran = c.read_body.ensures in
    let told = all_told d.saw d.left d.held d.read_fails d.write_fails g.met.D.Duplex.told c.args.duplex.now c.read_body.new.duplex ran.events ran.steps in
    let left = d.left c.args.duplex.now in
    let new : Option (List ℕ) = prepend_known c.read_body.new.buffer (d.left c.read_body.new.duplex) in
    let old : Option (List ℕ) = prepend_known c.args.self.now left in
    body_ended c.read_body.result c.args.count old new (subst (λ (b : List ℕ). BodyIsOf c.read_body.result c.args.count (prepend_known b left) new) c.self.view_is
    (ran.claimed.of_stream left (d.left c.read_body.new.duplex) told.gives))

pub returns-clause-failed : goal.returns-clause-failed
returns-clause-failed g c =
    let d = g.D.Duplex in
    let ran = c.read_body.ensures in
    let told = all_told d.saw d.left d.held d.read_fails d.write_fails g.met.D.Duplex.told c.args.duplex.now c.read_body.new.duplex ran.events ran.steps in
    body_failed d.read_fails c.read_body.result ran.events ran.claimed.ends told.read

pub returns-clause-memory : goal.returns-clause-memory
returns-clause-memory g c =
    let d = g.D.Duplex in
    let ran = c.read_body.ensures in
    let told = all_told d.saw d.left d.held d.read_fails d.write_fails g.met.D.Duplex.told c.args.duplex.now c.read_body.new.duplex ran.events ran.steps in
    let left = d.left c.args.duplex.now in
    let new : Option (List ℕ) = prepend_known c.read_body.new.buffer (d.left c.read_body.new.duplex) in
    let old : Option (List ℕ) = prepend_known c.args.self.now left in
    body_memory c.read_body.result c.args.count old new (subst (λ (b : List ℕ). BodyIsOf c.read_body.result c.args.count (prepend_known b left) new) c.self.view_is
    (ran.claimed.of_stream left (d.left c.read_body.new.duplex) told.gives))
