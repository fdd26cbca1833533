use Rattle.std.proofs.Common.{sym, ◌∙◌}
use Rattle.std.proofs.lemmas.Result.{err_from_is_err_and}
use Rattle.host_names.specs.Path.{with_slash}
use Rattle.serde_json.specs.View.{view}
use Rattle.host_api.proofs.ListedFiles.{listed_badly}
use Rattle.host_api.proofs.listings.list_one.Goals as goal

pub returns-in_err-listed-clause-refused : goal.returns-in_err-listed-clause-refused
returns-in_err-listed-clause-refused c =
    let bad = listed_badly c.args.is_patch c.args.files.now.entries c.in_ok-path.path (with_slash c.args.key.now) (view c.args.value.now) c.in_err-listed.field-0.0
    c.in_ok-path.ensures.kept c.in_ok-path.ensures.lawful (sym c.if-contains_key.ensures) (sym c.listed_in.ensures ∙ c.in_err-listed.was) in
    let p = err_from_is_err_and c.from_residual-in_err-listed.result c.from_residual-in_err-listed.ensures.1 in
    rw (p.1, p.2) (λ _. bad)
