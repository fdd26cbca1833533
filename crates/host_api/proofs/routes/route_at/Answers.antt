use Rattle.std.proofs.Common.{rules, ◌≡◌, Err, sym, ◌∙◌}
use Rattle.host_api.specs.Patterns.{bindings_of}
use Rattle.host_api.proofs.RoutesTaken.{misnamed, hashed, unhashed}
use Rattle.host_api.proofs.routes.route_at.Goals as goal

pub returns-in_err-named : goal.returns-in_err-named
returns-in_err-named c =
    let reason = c.in_err-named.field-0.0 in
    let is : c.from_residual.result ≡ Err reason = search rules in
    misnamed c.args.method.now c.args.path.now c.args.resource (bindings_of c.args.bindings) reason c.from_residual.result is (sym c.with_names.ensures ∙ c.in_err-named.was)

pub returns-then-has_hash : goal.returns-then-has_hash
returns-then-has_hash c =
    hashed c.args.method.now c.args.path.now c.args.resource (bindings_of c.args.bindings) c.in_ok-named.named
    (sym c.with_names.ensures ∙ c.in_ok-named.was) (sym c.has_hash.ensures ∙ c.if-has_hash.true)

pub returns : goal.returns
returns c =
    unhashed c.args.method.now c.args.path.now c.args.resource (bindings_of c.args.bindings) c.in_ok-named.named c.route_to.result
    (sym c.with_names.ensures ∙ c.in_ok-named.was) (sym c.has_hash.ensures ∙ c.if-has_hash.false) c.route_to.ensures
