-- The order of logs: a log is later than those whose base it has and with whose entries it begins.
use Rattle.std.proofs.Common.{[], ◌++◌, sym, ap, ◌∙◌}
use Rattle.change_log.proofs.Longer.{with_both, with_none}
use Rattle.change_log.specs.Logs.{BeginsWith, Log, with_entries}

pub stays : (log : Log) → BeginsWith log log
stays log = ([], sym (with_none log))

pub goes_on : (first mid last : Log) → BeginsWith mid first → BeginsWith last mid → BeginsWith last first
goes_on first mid last a b = (a.0 ++ b.0, b.1 ∙ ap (λ (l : Log). with_entries l b.0) a.1 ∙ with_both first a.0 b.0)
