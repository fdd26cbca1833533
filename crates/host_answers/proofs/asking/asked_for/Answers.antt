use Rattle.std.proofs.Common.{rules, ◌≡◌, Result, Err, IfErr, subst, sym}
use Rattle.host_api.specs.declared.bodies.Ask.{Ask}
use Rattle.host_api.specs.declared.refusals.Refusal.{Refusal}
use Rattle.host_answers.proofs.Unasked.{IsUnasked, no_route, asks_ok, asks_refused}
use Rattle.host_answers.proofs.asking.asked_for.Goals as goal

pub returns-in_err-route-clause-refused : goal.returns-in_err-route-clause-refused
returns-in_err-route-clause-refused c =
    let parts = c.args.head.now in
    let body = c.args.body.now in
    let reason = c.in_err-route.field-0.0 in
    let P : Result Ask Refusal → Type 0 = λ r. IfErr r (IsUnasked parts body) in
    let is : c.from_residual.result ≡ Err reason = search rules in
    subst P (sym is) (no_route parts c.as_str.result.now c.target.result.now body reason c.route_of.result (search rules) (search rules) c.in_err-route.was
    c.in_err-route.ensures.refused c.route_of.ensures.memory)

pub returns : goal.returns
returns c =
    let parts = c.args.head.now in
    let body = c.args.body.now in
    record {
      ok = asks_ok parts c.as_str.result.now c.target.result.now body c.in_ok-route.route c.ask_of.result (search rules) (search rules) c.in_ok-route.ensures.ok c.ask_of.ensures.ok;
      refused = asks_refused parts c.as_str.result.now c.target.result.now body c.in_ok-route.route c.ask_of.result (search rules) (search rules) c.in_ok-route.ensures.ok
          c.ask_of.ensures.refused c.ask_of.ensures.memory;
    }
