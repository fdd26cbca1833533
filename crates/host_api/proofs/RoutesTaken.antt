-- What the functions that take a route give.
use Rattle.std.proofs.Common.{◌≡◌, ◌≢◌, inl, inr, ℕ, Bool, true, false, not, cond, List, Option, Some, None, Result, Ok, Err, IfOk, IfErr, IsErrOf, IsTrue, refl, sym, ap, subst, ◌∙◌}
use Rattle.host_names.specs.declared.paths.PathError.{PathError}
use Rattle.host_api.specs.Numbers.{number_of}
use Rattle.host_api.specs.Patterns.{named_by, named_in, named_route, KeepsPath, GivesRoute}
use Rattle.host_api.specs.Refusals.{of_path}
use Rattle.host_api.specs.Routes.{rows, found_in, has_method, misnames, route_to, routed_at, routed_by, routed, has_path, to_file}
use Rattle.host_api.specs.Targets.{Bindings, path_of, has_hash}
use Rattle.host_api.specs.declared.refusals.Refusal.{Refusal}
use Rattle.host_api.specs.declared.refusals.Refusal.TheVariants.{BadMethod, BadName, BadPath, OutOfMemory}
use Rattle.host_api.specs.declared.resources.Resource.{Resource}
use Rattle.host_api.specs.declared.resources.ResourceKind.{ResourceKind}
use Rattle.host_api.specs.declared.resources.ResourceKind.TheVariants.{OfSite, OfAlias, OfDeploy}
use Rattle.host_api.specs.declared.routes.Named.{Named}
use Rattle.host_api.specs.declared.routes.Route.{Route}

-- ---- the paths of files

-- the route with a path, or why there is none
abbrev pub route_by : (List ℕ → Route) → Result (List ℕ) PathError → Result Route Refusal
route_by make (Ok file) = Ok (make file)
route_by make (Err error) = Err (of_path error)

pub gives : (make : List ℕ → Route) (path : Option (List ℕ)) (read : Result (List ℕ) PathError)
    → ((file : List ℕ) → has_path (Ok (make file)) ≡ true) → KeepsPath path read → GivesRoute (route_by make read) (to_file make path)
gives make None read takes h = subst (λ r. GivesRoute (route_by make r) (Err BadPath)) (sym h) (inl (λ e. cc e, refl))
gives make (Some path) read takes (inl e) = subst (λ r. GivesRoute (route_by make r) (Ok (make path))) (sym e) refl
gives make (Some path) read takes (inr e) = subst (λ r. GivesRoute (route_by make r) (Ok (make path))) (sym e) (inr (refl, takes path))

-- the same where the path was refused
pub gives_none : (make : List ℕ → Route) (path : Option (List ℕ)) (error : PathError) (result : Result Route Refusal)
    → ((file : List ℕ) → has_path (Ok (make file)) ≡ true) → result ≡ Err (of_path error) → KeepsPath path (Err error) → GivesRoute result (to_file make path)
gives_none make path error result takes is h = subst (λ r. GivesRoute r (to_file make path)) (sym is) (gives make path (Err error) takes h)

-- ---- names, and then the path

unnamed : (bad : Bool) (named : Named) (reason : Refusal) → cond bad (Err BadName) (Ok named) ≡ Err reason → (bad ≡ true) × (reason ≡ BadName)
unnamed true named reason h = (refl, sym (cc h))
unnamed false named reason h = absurd (cc h)

-- where a name is none
pub misnamed : (method path : List ℕ) (r : Resource) (b : Bindings) (reason : Refusal) (result : Result Route Refusal) → result ≡ Err reason
    → named_in r.kind b ≡ Err reason → GivesRoute result (routed_at method path r b)
misnamed method path r b reason result is h =
    let why = unnamed (misnames r.kind b) (named_by r.kind b) reason h in
    let at : routed_at method path r b ≡ Err BadName = ap (λ t. cond t (Err BadName) (cond (has_hash path) (Err BadPath) (route_to r.kind method b))) why.0 in
    subst (λ x. GivesRoute x (routed_at method path r b)) (sym (is ∙ ap Err why.1)) (inl (λ e. cc e, at))

are_named : (bad : Bool) (made named : Named) (taken : Result Route Refusal) → cond bad (Err BadName) (Ok made) ≡ Ok named
    → (cond bad (Err BadName) taken ≡ taken) × (made ≡ named)
are_named true made named taken h = absurd (cc h)
are_named false made named taken h = (refl, cc h)

-- where the names are names and the path has a `#`
pub hashed : (method path : List ℕ) (r : Resource) (b : Bindings) (named : Named) → named_in r.kind b ≡ Ok named → has_hash path ≡ true
    → GivesRoute (Err BadPath) (routed_at method path r b)
hashed method path r b named h hash =
    let at = are_named (misnames r.kind b) (named_by r.kind b) named (cond (has_hash path) (Err BadPath) (route_to r.kind method b)) h in
    inl (λ e. cc e, at.0 ∙ ap (λ t. cond t (Err BadPath) (route_to r.kind method b)) hash)

route_by_names : (r : ResourceKind) (method : List ℕ) (b : Bindings) → route_to r method b ≡ named_route (named_by r b) method (number_of b.number_text) b.rest
route_by_names (OfSite r) method b = refl
route_by_names (OfAlias r) method b = refl
route_by_names (OfDeploy r) method b = refl

-- where it has none
pub unhashed : (method path : List ℕ) (r : Resource) (b : Bindings) (named : Named) (result : Result Route Refusal) → named_in r.kind b ≡ Ok named → has_hash path ≡ false
    → GivesRoute result (named_route named method (number_of b.number_text) b.rest) → GivesRoute result (routed_at method path r b)
unhashed method path r b named result h hash gave =
    let at = are_named (misnames r.kind b) (named_by r.kind b) named (cond (has_hash path) (Err BadPath) (route_to r.kind method b)) h in
    let is : routed_at method path r b ≡ named_route named method (number_of b.number_text) b.rest =
    at.0 ∙ ap (λ t. cond t (Err BadPath) (route_to r.kind method b)) hash ∙ route_by_names r.kind method b
    ∙ ap (λ n. named_route n method (number_of b.number_text) b.rest) at.1 in
    subst (GivesRoute result) (sym is) gave

-- ---- what is known of a route

-- what the taking of a route gives, by what it answers
pub record Given (result routed : Result Route Refusal) : Type 0 where
  pub ok : IfOk result (λ taken. routed ≡ Ok taken)
  pub refused : IfErr result (λ reason. reason ≢ OutOfMemory → routed ≡ Err reason)
  pub memory : IsErrOf result OutOfMemory → IsTrue (has_path routed)

given : (result routed : Result Route Refusal) → GivesRoute result routed → Given result routed
given (Ok taken) routed is = record { ok = is; refused = tt; memory = λ e. absurd (cc e) }
given (Err reason) routed (inl some) = record { ok = tt; refused = λ _. some.1; memory = λ e. absurd (some.0 (cc e)) }
given (Err reason) routed (inr none) = record { ok = tt; refused = λ other. absurd (other none.0); memory = λ _. none.1 }

-- the route of a request whose path fits a pattern, and whose method the resource has
pub found_route : (method target path : List ℕ) (r : Resource) (b : Bindings) (result : Result Route Refusal) → path ≡ path_of target → found_in rows path ≡ Some (r, b)
    → has_method r method ≡ true → GivesRoute result (routed_at method path r b) → Given result (routed method target)
unfolding routed
found_route method target path r b result is found known gave =
    let at : routed method target ≡ routed_at method path r b =
    ap (λ p. routed_by method p (found_in rows p)) (sym is) ∙ ap (routed_by method path) found ∙ ap (λ h. cond (not h) (Err (BadMethod r)) (routed_at method path r b)) known in
    subst (Given result) (sym at) (given result (routed_at method path r b) gave)
