use Rattle.std.proofs.Common.{arith, take, length, ◌≤◌}
use Rattle.std.proofs.lemmas.List.{length-take-le}
use Rattle.http_wire.proofs.Windows.{take_written}
use Rattle.http_wire.proofs.buffers.read_behind.Goals as goal

pub returns-clause-grown : goal.returns-clause-grown
returns-clause-grown g c =
    let end = c.args.end in
    let count = c.in_ok-count.count in
    let fits : count ≤ length c.read_some.new.buf = c.in_ok-count.ensures.bound in (
      take count c.read_some.new.buf,
      take_written end count c.args.bytes.now c.read_some.new.buf _ (omega arith) fits,
      length-take-le count c.read_some.new.buf fits,
      c.in_ok-count.ensures.seen,
    )
