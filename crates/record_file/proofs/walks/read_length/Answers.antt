use Rattle.record_file.proofs.ReadParts.{length_there}
use Rattle.record_file.proofs.walks.read_length.Goals as goal

pub returns-clause-length : goal.returns-clause-length
returns-clause-length g c modelled =
    length_there (g.D.Disk.seen c.args.disk.now) c.args.at c.read.new.bytes c.told_length.result c.told_length.ensures.told (c.in_ok-read.ensures.read modelled)
