use Rattle.std.proofs.Common.{◌≡◌, ◌+◌, [], ◌∷◌, ◌++◌, length, arith, length-append}
use Rattle.record_file.specs.Frames.{opened}
use Rattle.record_file.proofs.PutSteps.{next_gate}
use Rattle.record_file.proofs.Steps.{from_err, from_ok}
use Rattle.record_file.proofs.records.Records.put.Goals as goal

pub returns-clause-stored : goal.returns-clause-stored
returns-clause-stored g c modelled header bodies body spelled settled =
    let next : c.args.self.now.position.gate + length c.args.bytes.now ≡ length (opened header (bodies ++ body ∷ [])) = next_gate header bodies body c.args.bytes.now _ settled.gate spelled in
    record {
      whole = c.if-self.false;
      gate = omega (arith, next, c.after-self.ensures.gate, c.requires.long);
      count = omega (arith, c.after-self.ensures.count, settled.count, length-append bodies (body ∷ []));
      shut = from_ok c.put_record.result _ c.if-is_err.ensures.value (c.put_record.ensures.stored modelled header bodies body settled.gate spelled settled.shut);
    }

pub returns-then-is_err-clause-reason : goal.returns-then-is_err-clause-reason
returns-then-is_err-clause-reason g c modelled header bodies body spelled settled is =
    from_err c.put_record.result _ c.if-is_err.ensures.value (c.put_record.ensures.reason modelled header bodies body settled.gate spelled settled.shut)
