use Rattle.std.proofs.Common.{◌≡◌, length, rules, arith}
use Rattle.std.proofs.lemmas.List.{length-take-le}
use Rattle.record_file.proofs.ReadParts.{those_there, others_there}
use Rattle.record_file.proofs.headers.has_header.Goals as goal

pub returns-clause-right : goal.returns-clause-right
returns-clause-right g c modelled is =
    those_there (g.D.Disk.seen c.args.disk.now) _ c.args.header.now (c.in_ok-read_front.ensures.read modelled) (c.is_same.ensures.same is)

pub returns-clause-wrong : goal.returns-clause-wrong
returns-clause-wrong g c modelled other rest stands =
    let full : length c.read_front.new.buffer ≡ 64 = search rules in
    c.is_same.ensures.other other (others_there (g.D.Disk.seen c.args.disk.now) _ c.args.header.now rest (c.in_ok-read_front.ensures.read modelled) (length-take-le (length c.args.header.now) c.read_front.new.buffer (omega (arith, c.requires, full))) stands)
