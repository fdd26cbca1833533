-- What the patterns of the program mean, and what it finds by them.
use Rattle.std.specs.Prelude.{◌≡◌, ◌≢◌, ◌⊎◌, ℕ, Bool, true, List, [], ◌∷◌, Option, Some, None, Result, Ok, Err, IsTrue, map, ◌==◌, if◌then◌else◌}
use Rattle.std.specs.Str.{byte, bytes_eq}
use Rattle.host_api.specs.Targets.{Part, word, site, alias, number, Bindings, from_first}
use Rattle.host_names.specs.declared.paths.PathError.{PathError}
use Rattle.host_names.specs.declared.paths.PathError.TheVariants as path_error
use Rattle.std.specs.List.{list_any, before_first}
use Rattle.host_api.specs.Routes.{Row, misnames, site_in, alias_in, site_route, alias_route, deploy_route, has_path}
use Rattle.host_api.specs.declared.refusals.Refusal.{Refusal}
use Rattle.host_api.specs.declared.refusals.Refusal.TheVariants.{BadName, OutOfMemory}
use Rattle.host_api.specs.declared.resources.Resource.{Resource}
use Rattle.host_api.specs.declared.resources.ResourceKind.{ResourceKind}
use Rattle.host_api.specs.declared.resources.ResourceKind.TheVariants.{OfSite, OfAlias, OfDeploy}
use Rattle.host_api.specs.declared.routes.Named.{Named}
use Rattle.host_api.specs.declared.routes.Named.TheVariants as named
use Rattle.host_api.specs.declared.routes.Route.{Route}
use Rattle.host_api.specs.declared.table.Row.{Row as RowWritten}
use Rattle.host_api.specs.declared.targets.Bindings.{Bindings as BindingsLent}
use Rattle.host_api.specs.declared.targets.Part.{Part as PartWritten}
use Rattle.host_api.specs.declared.targets.Part.TheVariants as written

-- the code's parts, rows and bindings as those of the definitions
abbrev pub part_of : PartWritten → Part
part_of (written.Word w) = word w.now
part_of written.Site = site
part_of written.Alias = alias
part_of written.Number = number

abbrev pub row_of : RowWritten → Row
row_of row = record { named = record { kind = row.kind; methods = row.methods }; parts = map part_of row.parts.now; has_rest = row.has_rest }

abbrev pub bindings_of : BindingsLent → Bindings
bindings_of b = record { site_text = b.site.now; alias_text = b.alias.now; number_text = b.number.now; rest = b.rest.now }

abbrev pub found_of : Resource × BindingsLent → Resource × Bindings
found_of found = (found.0, bindings_of found.1)

-- whether a segment may be in the place of a part
abbrev pub may_bind : Part → List ℕ → Bool
may_bind (word w) segment = bytes_eq segment w
may_bind site segment = true
may_bind alias segment = true
may_bind number segment = true

-- the segment after the leading slash, and what follows it
abbrev pub next_segment : List ℕ → Option (List ℕ × List ℕ)
next_segment [] = None
next_segment (b ∷ text) =
    if b == byte "/" then Some (before_first (λ c. c == byte "/") text, from_first (byte "/") text) else None

-- nothing, or a text that begins with a slash
abbrev pub is_rest : List ℕ → Bool
is_rest [] = true
is_rest (b ∷ text) = b == byte "/"

-- whether the text may have an escape
abbrev pub has_percent : List ℕ → Bool
has_percent text = list_any (λ b. b == byte "%") text

-- what is kept is that path, or there was no memory for it; where there is none, it is a bad path
abbrev pub KeepsPath : Option (List ℕ) → Result (List ℕ) PathError → Type 0
KeepsPath None result = result ≡ Err path_error.BadPath
KeepsPath (Some path) result = (result ≡ Ok path) ⊎ (result ≡ Err path_error.OutOfMemory)

-- a resource with the names that its target has
abbrev pub named_by : ResourceKind → Bindings → Named
named_by (OfSite r) b = named.Site r (site_in b)
named_by (OfAlias r) b = named.Alias r (site_in b) (alias_in b)
named_by (OfDeploy r) b = named.Deploy r

-- the names of a target, or that one is none
abbrev pub named_in : ResourceKind → Bindings → Result Named Refusal
named_in r b = if misnames r b then Err BadName else Ok (named_by r b)

-- the route of a method to a resource with its names, by the number and the rest of its target
abbrev pub named_route : Named → List ℕ → ℕ → List ℕ → Result Route Refusal
named_route (named.Site r name) method deploy rest = site_route r name deploy rest
named_route (named.Alias r name called) method deploy rest = alias_route r method name called rest
named_route (named.Deploy r) method deploy rest = deploy_route r method deploy rest

-- the route is that one, or the first reason why there is none; or there was no memory for its path
abbrev pub GivesRoute : Result Route Refusal → Result Route Refusal → Type 0
GivesRoute (Ok route) routed = routed ≡ Ok route
GivesRoute (Err refusal) routed = ((refusal ≢ OutOfMemory) × (routed ≡ Err refusal)) ⊎ ((refusal ≡ OutOfMemory) × IsTrue (has_path routed))
