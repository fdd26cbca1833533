use Rattle.journal_tests.proofs.tests.failing_disk.FailingDiskDisk.write_at.Goals as goal

pub returns-in-Fails-clause-crash : goal.returns-in-Fails-clause-crash
returns-in-Fails-clause-crash g c modelled = rw c.turn.ensures.disk at (c.leave_written.ensures.crash modelled)
