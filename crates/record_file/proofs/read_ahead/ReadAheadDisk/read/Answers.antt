use Rattle.std.proofs.Common.{◌≡◌, length, rules, arith}
use Rattle.host_disk.specs.Calls.{ReadAt}
use Rattle.record_file.proofs.Steps.{if_fails, on_err}
use Rattle.record_file.proofs.read_ahead.ReadAheadDisk.read.Goals as goal

pub returns-in_err-read_on-clause-reason : goal.returns-in_err-read_on-clause-reason
returns-in_err-read_on-clause-reason g c = on_err c.from_residual.result _ (λ modelled within. c.in_err-read_on.ensures.reason modelled (omega (arith, within)))

pub returns-clause-reason : goal.returns-clause-reason
returns-clause-reason g c =
    let size : length c.give.new.bytes ≡ length c.args.bytes.now = search rules in
    if_fails c.read.result _ _ (λ fails modelled within. record {
      disk = c.read_on.new.self.disk;
      call = ReadAt c.args.at (length c.give.new.bytes);
      same = (c.read_on.ensures.same modelled).seen_is;
      within = omega (arith, within, size);
      fails = fails;
    }) c.read.ensures.reason
