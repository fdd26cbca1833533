use Rattle.record_file.proofs.read_ahead.ReadAheadDisk.cut.Goals as goal

pub returns-clause-torn : goal.returns-clause-torn
returns-clause-torn g c modelled = rw c.forget.ensures.disk at (c.cut.ensures.torn modelled)
