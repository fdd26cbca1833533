use Rattle.std.proofs.Common.{inl, inr}
use Rattle.record_file.proofs.Steps.{if_fails, on_err}
use Rattle.record_file.proofs.synced.write_synced.Goals as goal

pub returns-clause-durable : goal.returns-clause-durable
returns-clause-durable g c modelled = rw (c.sync.ensures.seen modelled) (c.sync.ensures.durable modelled)

pub returns-in_err-write_at-clause-reason : goal.returns-in_err-write_at-clause-reason
returns-in_err-write_at-clause-reason g c modelled = on_err _ _ (inl c.in_err-write_at.ensures.reason)

pub returns-clause-reason : goal.returns-clause-reason
returns-clause-reason g c modelled =
    if_fails c.sync.result _ _ (λ fails. inr (c.write_at.new.self, c.in_ok-write_at.ensures.written modelled, fails)) c.sync.ensures.reason
