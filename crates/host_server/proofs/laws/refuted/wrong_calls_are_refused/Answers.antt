use Rattle.std.proofs.Common.{inl, inr, sym, ap, ◌∙◌}
use Rattle.host_server.proofs.laws.refuted.wrong_calls_are_refused.Goals as goal
use Rattle.host_server.specs.Hosts.{Host}
use Rattle.host_server.specs.Reasons.{commit_refusal}

pub returns-clause-looks : goal.returns-clause-looks
returns-clause-looks g c old new why is = is

pub returns-clause-misses : goal.returns-clause-misses
returns-clause-misses g c server why is = absurd (cc is)

pub returns-clause-enters : goal.returns-clause-enters
returns-clause-enters g c old new entry why number is = absurd (cc is.0)

pub returns-clause-commits : goal.returns-clause-commits
returns-clause-commits g c old new command number broken (inl (was, is, same)) = absurd (cc is)
returns-clause-commits g c old new command number broken (inr (whole, is)) = absurd (cc (sym broken ∙ whole))

pub returns-clause-full : goal.returns-clause-full
returns-clause-full g c old new command number empty (inl (was, is, same)) = absurd (cc is)
returns-clause-full g c old new command number empty (inr (whole, is)) = absurd (cc (sym (ap (λ (h : Host). commit_refusal h command) empty) ∙ is.0))

pub returns-clause-undoes : goal.returns-clause-undoes
returns-clause-undoes g c old new site k number broken (inl (was, is, same)) = absurd (cc is)
returns-clause-undoes g c old new site k number broken (inr (whole, is)) = absurd (cc (sym broken ∙ whole))

pub returns-clause-uploads : goal.returns-clause-uploads
returns-clause-uploads g c old new site n path bytes done broken (inl (was, is, same), count) = absurd (cc is)
returns-clause-uploads g c old new site n path bytes done broken (inr (whole, is), count) = absurd (cc (sym broken ∙ whole))
