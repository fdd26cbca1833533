use Rattle.std.proofs.Common.{sym, ◌∙◌}
use Rattle.host_api.specs.Patterns.{bindings_of}
use Rattle.host_api.proofs.RoutesTaken.{found_route}
use Rattle.host_api.proofs.routes.route_of.Goals as goal

pub returns : goal.returns
returns c =
    let g = found_route c.args.method.now c.args.target.now c.path_of-path.result.now c.in-Some.resource (bindings_of c.in-Some.bindings) c.route_at.result
    c.path_of-path.ensures (sym c.in-Some.ensures.value) (sym c.has_method.ensures ∙ c.if-not-has_method.false) c.route_at.ensures in
    record { ok = g.ok; refused = g.refused; memory = g.memory }
