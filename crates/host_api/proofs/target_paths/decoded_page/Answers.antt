use Rattle.std.proofs.Common.{◌≡◌, ℕ, List, true, sym, subst, ◌∙◌}
use Rattle.std.specs.Str.{IsUtf8}
use Rattle.percent_encoding.specs.Percent.{percent_decode}
use Rattle.host_api.specs.Patterns.{is_rest}
use Rattle.host_api.proofs.PathTexts.{decoded_rest, not_utf8, none_kept, long_page, raw_page}
use Rattle.host_api.proofs.target_paths.decoded_page.Goals as goal

pub returns-in_default : goal.returns-in_default
returns-in_default c = none_kept _ (long_page (percent_decode c.args.rest.now) c.in_default.ensures)

pub page-requires : goal.page-requires
page-requires c =
    let is = c.in-Ok.ensures.cases.0 ∙ c.as_slice.ensures.value ∙ c.in-Some.ensures in
    subst (λ (t : List ℕ). is_rest t ≡ true) (sym is) (decoded_rest c.args.rest.now c.requires)

pub returns-in-Err : goal.returns-in-Err
returns-in-Err c =
    let is = c.as_slice.ensures.value ∙ c.in-Some.ensures in
    none_kept _ (raw_page _ (not_utf8 _ (λ h. c.in-Err.ensures.cases.0 (subst IsUtf8 (sym is) h))))
