use Rattle.std.proofs.Common.{arith, ◌≤◌, ◌+◌, ◌-◌, sym, ap, drop, ◌∙◌, length}
use Rattle.std.proofs.lemmas.List.{length-take}
use Rattle.http_wire.proofs.Windows.{drop-slice_range}
use Rattle.http_wire.proofs.buffers.Buffer.consume.Goals as goal

pub returns : goal.returns
returns c =
    let width : length c.args.self.now ≤ c.self.inside.end - c.self.inside.start =
    omega (arith, ap length c.self.view_is, length-take (c.self.inside.end - c.self.inside.start) (drop c.self.inside.start c.self.inside.bytes.items)) in
    let fits : c.self.inside.start + c.args.count ≤ c.self.inside.end = omega arith in
    sym (drop-slice_range c.args.count c.self.inside.start c.self.inside.end c.self.inside.bytes.items fits) ∙ ap (drop c.args.count) c.self.view_is
