use Rattle.std.proofs.Common.{◌∙◌, List, ℕ, Ok, Result, ap, subst, sym}
use Rattle.host_api.specs.declared.refusals.Refusal.{Refusal}
use Rattle.world_read.specs.Reads.{Begins}
use Rattle.world_read.proofs.reads.begun.Goals as goal

pub returns-in_ok-begin-in-Ok : goal.returns-in_ok-begin-in-Ok
returns-in_ok-begin-in-Ok c =
    subst (λ (found : Result (List ℕ) Refusal). Begins c.args.request.now found (Ok c.in_ok-begin-in-Ok.field-0)) (sym (c.in-Ok.ensures.found ∙ ap (λ (f : List ℕ). Ok f) (sym c.info.ensures)))
    c.in_ok-begin-in-Ok.ensures
