use Rattle.std.proofs.Common.{rules, ◌≡◌, Ok, Err, refl}
use Rattle.site_change.specs.declared.commands.Command.TheVariants as command
use Rattle.host_api.specs.Refusals.{of_path}
use Rattle.host_api.specs.Targets.{written_path}
use Rattle.host_api.specs.declared.bodies.Ask.TheVariants as ask
use Rattle.host_api.specs.declared.routes.Route.TheVariants as route
use Rattle.host_api.proofs.RoutesTaken.{gives, gives_none}
use Rattle.host_api.proofs.routes.remove.Goals as goal

pub returns-in_err-path : goal.returns-in_err-path
returns-in_err-path c =
    let error = c.in_err-path.field-0.0 in
    let is : c.from_residual.result ≡ Err (of_path error) = search rules in
    gives_none (λ path. route.Ready (ask.Command (command.Remove c.args.site path))) (written_path c.args.rest.now) error c.from_residual.result (λ _. refl) is c.in_err-path.ensures

pub returns : goal.returns
returns c = gives (λ path. route.Ready (ask.Command (command.Remove c.args.site path))) (written_path c.args.rest.now) (Ok c.in_ok-path.path) (λ _. refl) c.in_ok-path.ensures
