use Rattle.std.proofs.Common.{sym, subst, ◌∙◌}
use Rattle.std.specs.Str.{IsUtf8}
use Rattle.host_api.proofs.PathTexts.{not_utf8, none_kept, raw_file}
use Rattle.host_api.proofs.target_paths.decoded.Goals as goal

pub returns-in-Err : goal.returns-in-Err
returns-in-Err c =
    let is = c.as_slice.ensures.value ∙ c.in-Some.ensures in
    none_kept _ (raw_file _ (not_utf8 _ (λ h. c.in-Err.ensures.cases.0 (subst IsUtf8 (sym is) h))))
