-- What a request asks for.
use Rattle.std.specs.Prelude.{ℕ, List, Bool, false, Result, Ok, Err}
use Rattle.std.specs.Str.{is_utf8}
use Rattle.http_wire.specs.Requests.{RequestParts}
use Rattle.host_api.specs.Bodies.{asked, then_with}
use Rattle.host_api.specs.Routes.{asks_of_path, routed}
use Rattle.host_api.specs.declared.bodies.Ask.{Ask}
use Rattle.host_api.specs.declared.refusals.Refusal.{Refusal}
use Rattle.host_api.specs.declared.routes.Route.{Route}
use Rattle.host_api.specs.declared.routes.Route.TheVariants.{Ready}

-- what a request of these parts and this body asks for, or the first reason why it asks for nothing
abbrev pub asked_for : RequestParts → List ℕ → Result Ask Refusal
asked_for parts body = then_with (routed parts.method parts.target) (λ route. asked route body)

-- whether it takes memory to find what a request on this route asks for: to keep the path of a file, or to parse the
-- body, where it is text
abbrev pub route_takes : List ℕ → Result Route Refusal → Bool
route_takes body (Ok (Ready wanted)) = asks_of_path wanted
route_takes body (Ok route) = is_utf8 body
route_takes body (Err refusal) = false

-- whether it takes memory to find what this request asks for
abbrev pub asking_takes : RequestParts → List ℕ → Bool
asking_takes parts body = route_takes body (routed parts.method parts.target)
