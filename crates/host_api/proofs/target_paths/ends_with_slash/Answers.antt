use Rattle.std.proofs.Common.{arith}
use Rattle.std.proofs.lemmas.Str.Pattern.{ends_char}
use Rattle.host_api.proofs.PathTexts.{ends}
use Rattle.host_api.proofs.target_paths.ends_with_slash.Goals as goal

pub returns : goal.returns
returns c =
    let told = ends_char 47 c.args.text.now c.ends_with.result c.ends_with.ensures.cases (omega arith) in
    ends _ _ told.0 told.1
