use Rattle.std.proofs.Common.{ap, ◌∙◌}
use Rattle.std.specs.List.{list_any}
use Rattle.std.specs.Str.{bytes_eq}
use Rattle.host_api.proofs.MethodNames.{any_name}
use Rattle.host_api.proofs.methods.Methods.contains.Goals as goal

pub returns : goal.returns
returns c =
    c.contains.ensures.value ∙ any_name c.listed.result.0.now c.args.method.now
    ∙ ap (list_any (bytes_eq c.args.method.now)) c.listed.ensures.names
