use Rattle.sealed_logs.proofs.Seals.{sealed-clash, sealed-refusal}
use Rattle.sealed_logs.proofs.laws.a_seal_leaves_later_undos.Goals as goal

pub returns-clause-refusal : goal.returns-clause-refusal
returns-clause-refusal c = sealed-refusal

pub returns-clause-clash : goal.returns-clause-clash
returns-clause-clash c = sealed-clash
