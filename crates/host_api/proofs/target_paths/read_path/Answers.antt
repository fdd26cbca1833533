use Rattle.std.proofs.Common.{ℕ, List, sym, subst, ◌∙◌}
use Rattle.host_api.specs.Patterns.{KeepsPath}
use Rattle.host_api.specs.Targets.{if_path, with_index}
use Rattle.host_api.proofs.PathTexts.{undecoded}
use Rattle.host_api.proofs.target_paths.read_path.Goals as goal

pub returns : goal.returns
returns c =
    let plain = undecoded c.args.rest.now (sym c.may_escape.ensures ∙ c.if-may_escape.false) in
    subst (λ (t : List ℕ). KeepsPath (if_path (with_index t)) c.page.result) (sym plain) c.page.ensures
