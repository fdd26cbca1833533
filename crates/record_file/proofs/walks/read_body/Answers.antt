use Rattle.std.proofs.Common.{◌≡◌, length, rules}
use Rattle.record_file.proofs.ReadParts.{filled_there}
use Rattle.record_file.proofs.walks.read_body.Goals as goal

pub returns-clause-body : goal.returns-clause-body
returns-clause-body g c modelled =
    let full : length c.read.new.bytes ≡ c.args.size = search rules in
    filled_there (g.D.Disk.seen c.args.disk.now) c.args.at c.read.new.bytes _ c.resize.new.self.len c.args.size (search rules) full (c.in_ok-read.ensures.read modelled)
