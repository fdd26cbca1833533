use Rattle.std.proofs.Common.{List, ℕ, Option}
use Rattle.std.specs.Io.KnownBytes.{prepend_known}
use Rattle.http_wire.proofs.StreamReads.{head_ok, head_bad, head_large, head_ended, head_failed, head_memory, head_kept}
use Rattle.http_wire.proofs.Trails.{all_told}
use Rattle.http_wire.proofs.wires.Wire.read_head.Goals as goal

pub returns-clause-ok : goal.returns-clause-ok
returns-clause-ok g c =
    let d = g.D.Duplex in
    let ran = c.take_head.ensures.ran in
    let told = all_told d.saw d.left d.held d.read_fails d.write_fails g.met.D.Duplex.told c.args.duplex.now c.take_head.new.duplex ran.events ran.steps in
    let left = d.left c.args.duplex.now in
    let new : Option (List ℕ) = prepend_known c.take_head.new.wire (d.left c.take_head.new.duplex) in
    let old : Option (List ℕ) = prepend_known c.args.self.now left in
    head_ok c.take_head.result old new (ran.claimed.of_stream left (d.left c.take_head.new.duplex) told.gives)

pub returns-clause-bad : goal.returns-clause-bad
returns-clause-bad g c =
    let d = g.D.Duplex in
    let ran = c.take_head.ensures.ran in
    let told = all_told d.saw d.left d.held d.read_fails d.write_fails g.met.D.Duplex.told c.args.duplex.now c.take_head.new.duplex ran.events ran.steps in
    let left = d.left c.args.duplex.now in
    let new : Option (List ℕ) = prepend_known c.take_head.new.wire (d.left c.take_head.new.duplex) in
    let old : Option (List ℕ) = prepend_known c.args.self.now left in
    head_bad c.take_head.result old new (ran.claimed.of_stream left (d.left c.take_head.new.duplex) told.gives)

pub returns-clause-large : goal.returns-clause-large
returns-clause-large g c =
    let d = g.D.Duplex in
    let ran = c.take_head.ensures.ran in
    let told = all_told d.saw d.left d.held d.read_fails d.write_fails g.met.D.Duplex.told c.args.duplex.now c.take_head.new.duplex ran.events ran.steps in
    let left = d.left c.args.duplex.now in
    let new : Option (List ℕ) = prepend_known c.take_head.new.wire (d.left c.take_head.new.duplex) in
    let old : Option (List ℕ) = prepend_known c.args.self.now left in
    head_large c.take_head.result old new (ran.claimed.of_stream left (d.left c.take_head.new.duplex) told.gives)

pub returns-clause-ended : goal.returns-clause-ended
returns-clause-ended g c =
    let d = g.D.Duplex in
    let ran = c.take_head.ensures.ran in
    let told = all_told d.saw d.left d.held d.read_fails d.write_fails g.met.D.Duplex.told c.args.duplex.now c.take_head.new.duplex ran.events ran.steps in
    let left = d.left c.args.duplex.now in
    let new : Option (List ℕ) = prepend_known c.take_head.new.wire (d.left c.take_head.new.duplex) in
    let old : Option (List ℕ) = prepend_known c.args.self.now left in
    head_ended c.take_head.result old new (ran.claimed.of_stream left (d.left c.take_head.new.duplex) told.gives)

pub returns-clause-failed : goal.returns-clause-failed
returns-clause-failed g c =
    let d = g.D.Duplex in
    let ran = c.take_head.ensures.ran in
    let told = all_told d.saw d.left d.held d.read_fails d.write_fails g.met.D.Duplex.told c.args.duplex.now c.take_head.new.duplex ran.events ran.steps in
    head_failed d.read_fails c.take_head.result ran.events ran.claimed.ends told.read

pub returns-clause-memory : goal.returns-clause-memory
returns-clause-memory g c =
    let d = g.D.Duplex in
    let ran = c.take_head.ensures.ran in
    let told = all_told d.saw d.left d.held d.read_fails d.write_fails g.met.D.Duplex.told c.args.duplex.now c.take_head.new.duplex ran.events ran.steps in
    let left = d.left c.args.duplex.now in
    let new : Option (List ℕ) = prepend_known c.take_head.new.wire (d.left c.take_head.new.duplex) in
    let old : Option (List ℕ) = prepend_known c.args.self.now left in
    head_memory c.take_head.result old new (ran.claimed.of_stream left (d.left c.take_head.new.duplex) told.gives)

pub returns-clause-kept : goal.returns-clause-kept
returns-clause-kept g c =
    let d = g.D.Duplex in
    let ran = c.take_head.ensures.ran in
    let told = all_told d.saw d.left d.held d.read_fails d.write_fails g.met.D.Duplex.told c.args.duplex.now c.take_head.new.duplex ran.events ran.steps in
    let left = d.left c.args.duplex.now in
    let new : Option (List ℕ) = prepend_known c.take_head.new.wire (d.left c.take_head.new.duplex) in
    let old : Option (List ℕ) = prepend_known c.args.self.now left in
    head_kept c.take_head.result old new (ran.claimed.of_stream left (d.left c.take_head.new.duplex) told.gives)
