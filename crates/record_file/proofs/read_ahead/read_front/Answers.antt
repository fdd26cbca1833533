use Rattle.std.proofs.Common.{rules, ◌≡◌, length}
use Rattle.record_file.proofs.ReadsAhead.{filled_ahead}
use Rattle.record_file.proofs.Steps.{both_on_ok}
use Rattle.record_file.proofs.read_ahead.read_front.Goals as goal

pub returns-clause-read : goal.returns-clause-read
returns-clause-read g c modelled =
    let full : length c.read.new.bytes ≡ c.args.len = search rules in
    both_on_ok c.read.result _ _ _ (λ is again. filled_ahead (g.D.Disk.seen c.args.disk.now) c.args.at c.args.len c.read.new.bytes _ full is) (c.read.ensures.read modelled) (c.read.ensures.read modelled)
