use Rattle.std.proofs.Common.{[], ◌++◌, ℕ, List, Ok, Err, Global, subst}
use Rattle.http_wire.specs.declared.faults.BodyFault.{BodyFault}
use Rattle.http_wire.specs.declared.halts.Halt.{Halt}
use Rattle.http_wire.specs.Halting.{TriesBody}
use Rattle.http_wire.specs.Timing.{Ran}
use Rattle.http_wire.specs.Wires.{AwaitsBody}
use Rattle.http_wire.proofs.bodies.read_body.Goals as goal

pub returns-in-Ok : goal.returns-in-Ok
returns-in-Ok g c =
    let P : List ℕ → Type 0 = λ part. Ran g.D.Duplex.saw (AwaitsBody (part ++ c.args.buffer.now) c.args.count) c.args.duplex.now c.fill_body.new.duplex
    (TriesBody {A = Global} (Ok tt) c.args.count (part ++ c.args.buffer.now) c.fill_body.new.body c.fill_body.new.buffer) in
    subst P c.new-body.ensures.items c.in-Ok.ensures.ran

pub returns-in-Err-Failed : goal.returns-in-Err-Failed
returns-in-Err-Failed g c =
    let P : List ℕ → Halt BodyFault → Type 0 = λ part why. Ran g.D.Duplex.saw (AwaitsBody (part ++ c.args.buffer.now) c.args.count) c.args.duplex.now c.fill_body.new.duplex
    (TriesBody {A = Global} (Err why) c.args.count (part ++ c.args.buffer.now) c.fill_body.new.body c.fill_body.new.buffer) in
    subst (P []) c.in-Err-Failed.field-0-is (subst (λ (part : List ℕ). P part c.in-Err-Failed.field-0) c.new-body.ensures.items c.in-Err-Failed.ensures.ran)
