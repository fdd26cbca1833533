use Rattle.std.proofs.Common.{ap, ◌∙◌}
use Rattle.host_api.specs.Limits as spec
use Rattle.host_api.specs.Routes.{rows, found_in}
use Rattle.host_api.proofs.limits.is_upload.Goals as goal

pub returns : goal.returns
returns c = c.is_deploy_file.ensures ∙ ap spec.is_upload (c.find.ensures.value ∙ ap (found_in rows) c.path_of.ensures)
