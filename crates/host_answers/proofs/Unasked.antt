-- Finding what a request asks for, where memory may run out.
use Rattle.std.proofs.Common.{◌≡◌, ◌≢◌, ◌⊎◌, inl, inr, Bool, true, List, ℕ, Result, Ok, Err, IfOk, IfErr, IsErrOf, refl, sym, ap, ◌∙◌}
use Rattle.host_api.specs.Bodies.{asked, is_parsed, then_with}
use Rattle.host_api.specs.Routes.{routed, has_path}
use Rattle.host_api.specs.declared.bodies.Ask.{Ask}
use Rattle.host_api.specs.declared.refusals.Refusal.{Refusal}
use Rattle.host_api.specs.declared.refusals.Refusal.TheVariants.{OutOfMemory}
use Rattle.host_api.specs.declared.routes.Route.{Route}
use Rattle.host_api.specs.declared.routes.Route.TheVariants.{Ready}
use Rattle.http_wire.specs.Requests.{RequestParts}
use Rattle.host_answers.specs.Asking.{asked_for, asking_takes, route_takes}

-- why nothing is asked for: there was no memory where some is taken, or the request asks for nothing
abbrev pub IsUnasked : RequestParts → List ℕ → Refusal → Type 0
IsUnasked parts body reason = ((reason ≡ OutOfMemory) × (asking_takes parts body ≡ true)) ⊎ (asked_for parts body ≡ Err reason)

-- whether a reason is that there was no memory
is_memory : (reason : Refusal) → (reason ≡ OutOfMemory) ⊎ (reason ≢ OutOfMemory)
is_memory OutOfMemory = inl refl
is_memory other = inr (λ e. cc e)

or_refused : {P : Type 0} (takes : Bool) (reason : Refusal) → (reason ≡ OutOfMemory) ⊎ (reason ≢ OutOfMemory) → (reason ≡ OutOfMemory → takes ≡ true)
    → (reason ≢ OutOfMemory → P) → ((reason ≡ OutOfMemory) × (takes ≡ true)) ⊎ P
or_refused takes reason (inl none) memory refused = inl (none, memory none)
or_refused takes reason (inr some) memory refused = inr (refused some)

-- the path of a file takes memory, so the route does
path_taken : (body : List ℕ) (route : Result Route Refusal) → has_path route ≡ true → route_takes body route ≡ true
path_taken body (Ok (Ready wanted)) takes = takes
path_taken body (Ok route) takes = absurd (cc takes)
path_taken body (Err reason) takes = takes

-- the same of the body
body_taken : (body : List ℕ) (route : Route) → is_parsed route body ≡ true → route_takes body (Ok route) ≡ true
body_taken body (Ready wanted) parsed = absurd (cc parsed)
body_taken body route parsed = parsed

-- no route is taken
pub no_route : (parts : RequestParts) (method target body : List ℕ) (reason : Refusal) (result : Result Route Refusal) → method ≡ parts.method → target ≡ parts.target
    → result ≡ Err reason → (reason ≢ OutOfMemory → routed method target ≡ Err reason)
    → (IsErrOf result OutOfMemory → has_path (routed method target) ≡ true) → IsUnasked parts body reason
no_route parts method target body reason result m t is refused memory =
    let same : routed method target ≡ routed parts.method parts.target = ap (λ x. routed x target) m ∙ ap (routed parts.method) t in
    or_refused (asking_takes parts body) reason (is_memory reason)
    (λ none. path_taken body (routed parts.method parts.target) (sym (ap has_path same) ∙ memory (is ∙ ap Err none)))
    (λ some. ap (λ r. then_with r (λ route. asked route body)) (sym same ∙ refused some))

-- a route is taken, and the body asks for something
route_asks : (parts : RequestParts) (method target body : List ℕ) (route : Route) → method ≡ parts.method → target ≡ parts.target
    → routed method target ≡ Ok route → routed parts.method parts.target ≡ Ok route
route_asks parts method target body route m t is = sym (ap (λ x. routed x target) m ∙ ap (routed parts.method) t) ∙ is

asks : (parts : RequestParts) (body : List ℕ) (route : Route) → routed parts.method parts.target ≡ Ok route → asked_for parts body ≡ asked route body
asks parts body route is = ap (λ r. then_with r (λ taken. asked taken body)) is

pub asks_ok : (parts : RequestParts) (method target body : List ℕ) (route : Route) (result : Result Ask Refusal) → method ≡ parts.method → target ≡ parts.target
    → routed method target ≡ Ok route → IfOk result (λ ask. asked route body ≡ Ok ask) → IfOk result (λ ask. asked_for parts body ≡ Ok ask)
asks_ok parts method target body route (Ok ask) m t is ok = asks parts body route (route_asks parts method target body route m t is) ∙ ok
asks_ok parts method target body route (Err reason) m t is ok = tt

pub asks_refused : (parts : RequestParts) (method target body : List ℕ) (route : Route) (result : Result Ask Refusal) → method ≡ parts.method → target ≡ parts.target
    → routed method target ≡ Ok route → IfErr result (λ reason. reason ≢ OutOfMemory → asked route body ≡ Err reason)
    → (IsErrOf result OutOfMemory → is_parsed route body ≡ true) → IfErr result (IsUnasked parts body)
asks_refused parts method target body route (Ok ask) m t is refused memory = tt
asks_refused parts method target body route (Err reason) m t is refused memory =
    let at = route_asks parts method target body route m t is in
    or_refused (asking_takes parts body) reason (is_memory reason)
    (λ none. ap (route_takes body) at ∙ body_taken body route (memory (ap Err none)))
    (λ some. asks parts body route at ∙ refused some)
