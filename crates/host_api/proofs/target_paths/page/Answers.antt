use Rattle.std.proofs.Common.{sym, ◌∙◌}
use Rattle.host_api.proofs.PathTexts.{long_folder}
use Rattle.host_api.proofs.target_paths.page.Goals as goal

pub returns-in-None : goal.returns-in-None
returns-in-None c = long_folder c.args.text.now (sym c.ends_with_slash.ensures ∙ c.if-not-ends_with_slash.false) c.in-None.ensures
