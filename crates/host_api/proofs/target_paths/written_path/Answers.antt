use Rattle.std.proofs.Common.{ℕ, List, sym, ap, subst, ◌∙◌}
use Rattle.percent_encoding.specs.Percent.{percent_decode}
use Rattle.host_names.specs.Path.{with_slash}
use Rattle.host_api.specs.Patterns.{KeepsPath}
use Rattle.host_api.specs.Targets.{if_path}
use Rattle.host_api.proofs.PathTexts.{undecoded}
use Rattle.host_api.proofs.target_paths.written_path.Goals as goal

pub returns : goal.returns
returns c =
    let plain = undecoded c.after_slash-text.result.now (sym c.may_escape.ensures ∙ c.if-may_escape.false) in
    subst (λ (t : List ℕ). KeepsPath (if_path (with_slash t)) c.kept.result)
    (sym plain ∙ ap percent_decode c.after_slash-text.ensures) c.kept.ensures
