use Rattle.std.proofs.Common.{Err, subst}
use Rattle.http_wire.specs.declared.faults.HeadFault.{HeadFault}
use Rattle.http_wire.specs.declared.halts.Halt.{Halt}
use Rattle.http_wire.specs.Halting.{TriesHead}
use Rattle.http_wire.specs.Timing.{Ran}
use Rattle.http_wire.specs.Wires.{AwaitsHead}
use Rattle.http_wire.proofs.wires.take_head.Goals as goal

pub returns-in-Err-Failed : goal.returns-in-Err-Failed
returns-in-Err-Failed g c =
    let P : Halt HeadFault → Type 0 = λ why. Ran g.D.Duplex.saw (AwaitsHead c.args.wire.now) c.args.duplex.now c.try_read_head.new.duplex
    (TriesHead (Err why) c.args.wire.now c.try_read_head.new.self) in
    record { ran = subst P c.in-Err-Failed.field-0-is c.in-Err-Failed.ensures.ran }
