use Rattle.journal_tests.proofs.tests.failing_disk.FailingDiskDisk.cut.Goals as goal

pub returns-in-Works-clause-torn : goal.returns-in-Works-clause-torn
returns-in-Works-clause-torn g c modelled = rw c.counted.ensures.same (rw c.turn.ensures.disk at (c.cut-outcome.ensures.torn modelled))

pub returns-in-Fails-clause-crash : goal.returns-in-Fails-clause-crash
returns-in-Fails-clause-crash g c modelled = rw c.turn.ensures.disk at (c.leave_cut.ensures.crash modelled)
