use Rattle.std.proofs.Common.{refl, ◌∙◌, ap, arith}
use Rattle.std.proofs.lemmas.Str.Pattern.{strip_prefix_char}
use Rattle.host_api.proofs.PathTexts.{behind}
use Rattle.host_api.proofs.target_paths.after_slash.Goals as goal

pub returns : goal.returns
returns c =
    let found = strip_prefix_char 47 c.args.rest.now c.strip_prefix.result c.strip_prefix.ensures.cases (omega arith) in
    ap (λ x. x.now) c.unwrap_or.ensures ∙ behind _ c.strip_prefix.result c.args.rest c.requires refl found
