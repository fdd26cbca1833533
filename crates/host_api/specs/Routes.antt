-- Which route a method and a target take.
use Rattle.std.specs.Prelude.{ℕ, Bool, true, false, List, [], ◌∷◌, Option, Some, None, Result, Ok, Err, not, ◌&&◌, if◌then◌else◌, codes}
use Rattle.std.specs.List.{list_any}
use Rattle.std.specs.Str.{bytes_eq}
use Rattle.host_names.specs.Name.{is_name}
use Rattle.host_names.specs.declared.names.AliasName.{AliasName}
use Rattle.host_names.specs.declared.names.SiteName.{SiteName}
use Rattle.host_api.specs.Methods.{names_of}
use Rattle.host_api.specs.Numbers.{number_of}
use Rattle.host_api.specs.Targets.{Part, word, site, alias, number, Bindings, fit, path_of, has_hash, read_path, written_path}
use Rattle.host_api.specs.declared.methods.Methods.{Methods}
use Rattle.host_api.specs.declared.methods.Methods.TheVariants.{Read, ReadOrDelete, PutOrDelete, Put, Delete, Post}
use Rattle.host_api.specs.declared.resources.Resource.{Resource}
use Rattle.host_api.specs.declared.resources.ResourceKind.{ResourceKind}
use Rattle.host_api.specs.declared.resources.ResourceKind.TheVariants.{OfSite, OfAlias, OfDeploy}
use Rattle.host_api.specs.declared.resources.SiteResource.{SiteResource}
use Rattle.host_api.specs.declared.resources.SiteResource.TheVariants as site_resource
use Rattle.host_api.specs.declared.resources.AliasResource.{AliasResource}
use Rattle.host_api.specs.declared.resources.AliasResource.TheVariants as alias_resource
use Rattle.host_api.specs.declared.resources.DeployResource.{DeployResource}
use Rattle.host_api.specs.declared.resources.DeployResource.TheVariants as deploy_resource
use Rattle.site_change.specs.declared.commands.Command.TheVariants as command
use Rattle.host_api.specs.declared.bodies.Ask.{Ask}
use Rattle.host_api.specs.declared.bodies.Ask.TheVariants as ask
use Rattle.host_api.specs.declared.routes.Route.{Route}
use Rattle.host_api.specs.declared.routes.Route.TheVariants as route
use Rattle.host_api.specs.declared.versions.Version.{Version}
use Rattle.host_api.specs.declared.versions.Version.TheVariants as version
use Rattle.host_api.specs.declared.refusals.Refusal.{Refusal}
use Rattle.host_api.specs.declared.refusals.Refusal.TheVariants.{NoRoute, BadMethod, BadName, BadPath}

-- what a target names, with its methods; the pattern of the target, and whether a rest follows it
pub record Row : Type 0 where
  pub named : Resource
  pub parts : List Part
  pub has_rest : Bool

-- the pattern alone
abbrev pub whole : ResourceKind → Methods → List Part → Row
whole kind methods parts = record { named = record { kind = kind; methods = methods }; parts = parts; has_rest = false }

-- the pattern, and the path of a file after it
abbrev pub with_path : ResourceKind → Methods → List Part → Row
with_path kind methods parts = record { named = record { kind = kind; methods = methods }; parts = parts; has_rest = true }

-- /api/v1/sites/{site}, and these parts after it
abbrev pub of_site : List Part → List Part
of_site parts = word (codes "api") ∷ word (codes "v1") ∷ word (codes "sites") ∷ site ∷ parts

-- /api/v1/deploys/{number}, and these parts after it
abbrev pub of_deploy : List Part → List Part
of_deploy parts = word (codes "api") ∷ word (codes "v1") ∷ word (codes "deploys") ∷ number ∷ parts

-- the table of routes
abbrev pub rows : List Row
rows =
    with_path (OfSite site_resource.LiveFile) Read (word (codes "s") ∷ site ∷ [])
    ∷ with_path (OfAlias alias_resource.File) Read (word (codes "a") ∷ site ∷ alias ∷ [])
    ∷ with_path (OfSite site_resource.KeptFile) Read (word (codes "d") ∷ site ∷ number ∷ [])
    ∷ whole (OfSite site_resource.Deploys) Post (of_site (word (codes "deploys") ∷ []))
    ∷ whole (OfSite site_resource.Restore) Post (of_site (word (codes "deploys") ∷ number ∷ word (codes "restore") ∷ []))
    ∷ whole (OfAlias alias_resource.Itself) PutOrDelete (of_site (word (codes "aliases") ∷ alias ∷ []))
    ∷ whole (OfSite site_resource.Rename) Post (of_site (word (codes "rename") ∷ []))
    ∷ whole (OfSite site_resource.RenameFolder) Post (of_site (word (codes "rename-folder") ∷ []))
    ∷ with_path (OfSite site_resource.File) Delete (of_site (word (codes "files") ∷ []))
    ∷ whole (OfSite site_resource.Undo) Post (of_site (word (codes "undo") ∷ []))
    ∷ whole (OfSite site_resource.Changes) Read (of_site (word (codes "changes") ∷ []))
    ∷ whole (OfDeploy deploy_resource.Itself) ReadOrDelete (of_deploy [])
    ∷ whole (OfDeploy deploy_resource.Cancel) Post (of_deploy (word (codes "cancel") ∷ []))
    ∷ with_path (OfDeploy deploy_resource.File) Put (of_deploy (word (codes "files") ∷ []))
    ∷ []

abbrev pub first_found : Resource → Option Bindings → Option (Resource × Bindings) → Option (Resource × Bindings)
first_found r None others = others
first_found r (Some bindings) others = Some (r, bindings)

-- the first row whose pattern the path fits, with what is in its open places
abbrev pub found_in : List Row → List ℕ → Option (Resource × Bindings)
found_in [] path = None
found_in (row ∷ others) path = first_found row.named (fit row.parts row.has_rest path) (found_in others path)

-- whether a resource has the method
abbrev pub has_method : Resource → List ℕ → Bool
has_method r method = list_any (bytes_eq method) (names_of r.methods)

-- whether a name that the target has to have is none
abbrev pub misnames : ResourceKind → Bindings → Bool
misnames (OfSite r) b = not (is_name b.site_text)
misnames (OfAlias r) b = not (is_name b.site_text && is_name b.alias_text)
misnames (OfDeploy r) b = false

-- the names, where they are names
abbrev pub site_in : Bindings → SiteName
site_in b = record { 0 = b.site_text }

abbrev pub alias_in : Bindings → AliasName
alias_in b = record { 0 = b.alias_text }

-- the route with a path, or that the text is none
abbrev pub to_file : (List ℕ → Route) → Option (List ℕ) → Result Route Refusal
to_file make None = Err BadPath
to_file make (Some path) = Ok (make path)

-- the reading of a file of a version of a site
abbrev pub read_route : SiteName → Version → List ℕ → Result Route Refusal
read_route name version rest = to_file (λ path. route.Ready (ask.Read name version path)) (read_path rest)

-- the removal of a file
abbrev pub remove_route : SiteName → List ℕ → Result Route Refusal
remove_route name rest = to_file (λ path. route.Ready (ask.Command (command.Remove name path))) (written_path rest)

-- the upload of a file
abbrev pub upload_route : ℕ → List ℕ → Result Route Refusal
upload_route deploy rest = to_file (λ path. route.Ready (ask.Upload deploy path)) (written_path rest)

-- the route to a resource of a site, which has one method, or GET and HEAD, which do the same
abbrev pub site_route : SiteResource → SiteName → ℕ → List ℕ → Result Route Refusal
site_route site_resource.LiveFile name deploy rest = read_route name version.Live rest
site_route site_resource.KeptFile name deploy rest = read_route name (version.Kept deploy) rest
site_route site_resource.Deploys name deploy rest = Ok (route.Open name)
site_route site_resource.Restore name deploy rest = Ok (route.Ready (ask.Command (command.Restore name deploy)))
site_route site_resource.Rename name deploy rest = Ok (route.Rename name)
site_route site_resource.RenameFolder name deploy rest = Ok (route.RenameFolder name)
site_route site_resource.File name deploy rest = remove_route name rest
site_route site_resource.Undo name deploy rest = Ok (route.Undo name)
site_route site_resource.Changes name deploy rest = Ok (route.Ready (ask.Changes name))

-- the route of a method, which the resource has, to a resource of an alias
abbrev pub alias_route : AliasResource → List ℕ → SiteName → AliasName → List ℕ → Result Route Refusal
alias_route alias_resource.File method name called rest = read_route name (version.Alias called) rest
alias_route alias_resource.Itself method name called rest =
    if bytes_eq method (codes "PUT") then Ok (route.MoveAlias name called)
    else Ok (route.Ready (ask.Command (command.RemoveAlias name called)))

-- the same of a deploy
abbrev pub deploy_route : DeployResource → List ℕ → ℕ → List ℕ → Result Route Refusal
deploy_route deploy_resource.Itself method deploy rest =
    if bytes_eq method (codes "DELETE") then Ok (route.Ready (ask.RemoveDeploy deploy))
    else Ok (route.Ready (ask.Deploy deploy))
deploy_route deploy_resource.Cancel method deploy rest = Ok (route.Ready (ask.Cancel deploy))
deploy_route deploy_resource.File method deploy rest = upload_route deploy rest

-- what a method, which the resource has, does to it
abbrev pub route_to : ResourceKind → List ℕ → Bindings → Result Route Refusal
route_to (OfSite r) method b = site_route r (site_in b) (number_of b.number_text) b.rest
route_to (OfAlias r) method b = alias_route r method (site_in b) (alias_in b) b.rest
route_to (OfDeploy r) method b = deploy_route r method (number_of b.number_text) b.rest

-- the route to a resource on a path, or the first reason why there is none: the names, the path
abbrev pub routed_at : List ℕ → List ℕ → Resource → Bindings → Result Route Refusal
routed_at method path r bindings =
    if misnames r.kind bindings then Err BadName
    else if has_hash path then Err BadPath
    else route_to r.kind method bindings

-- the route, or the first reason why there is none: the target, the method, the names, the path
abbrev pub routed_by : List ℕ → List ℕ → Option (Resource × Bindings) → Result Route Refusal
routed_by method path None = Err NoRoute
routed_by method path (Some (r, bindings)) =
    if not (has_method r method) then Err (BadMethod r) else routed_at method path r bindings

-- the route of a method and a target, or the first reason why there is none
unfoldable pub routed : List ℕ → List ℕ → Result Route Refusal
routed method target = routed_by method (path_of target) (found_in rows (path_of target))

-- whether what is asked for has the path of a file that the target names, which takes memory
abbrev pub asks_of_path : Ask → Bool
asks_of_path (ask.Read name version path) = true
asks_of_path (ask.Command (command.Remove name path)) = true
asks_of_path (ask.Upload deploy path) = true
asks_of_path other = false

-- whether there is a route and it has the path of a file
abbrev pub has_path : Result Route Refusal → Bool
has_path (Ok (route.Ready asked)) = asks_of_path asked
has_path other = false
