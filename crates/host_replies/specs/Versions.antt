-- The files of a version of a site.
use Rattle.std.specs.Prelude.{ℕ, List, Option, Some, None, Result, Err, ok_or}
use Rattle.host_names.specs.declared.names.SiteName.{SiteName}
use Rattle.site_change.specs.declared.refusals.ChangeRefusal.TheVariants.{NoSuchAlias, NoSuchDeploy, NoSuchFile}
use Rattle.site_state.specs.Files.{Paths, at_path}
use Rattle.site_state.specs.States.{State, alias_at, kept_at, live_at}
use Rattle.host_api.specs.Bodies.{then_with}
use Rattle.host_api.specs.declared.refusals.Refusal.{Refusal}
use Rattle.host_api.specs.declared.refusals.Refusal.TheVariants.{Change}
use Rattle.host_api.specs.declared.versions.Version.{Version}
use Rattle.host_api.specs.declared.versions.Version.TheVariants as version

-- the file at the path, where the deploy is kept
abbrev pub kept_file : Option (Paths (List ℕ)) → List ℕ → Result (List ℕ) Refusal
kept_file None path = Err (Change NoSuchDeploy)
kept_file (Some tree) path = ok_or (at_path tree path) (Change NoSuchFile)

-- the file that the version has at the path, or the first reason why it has none; every state keeps the deploy that an
-- alias names (`State::aliases_are_named`)
abbrev pub file_of : State → SiteName → Version → List ℕ → Result (List ℕ) Refusal
file_of state site version.Live path = ok_or (live_at state site path) (Change NoSuchFile)
file_of state site (version.Alias name) path =
    then_with (ok_or (alias_at state site name) (Change NoSuchAlias)) (λ n. kept_file (kept_at state site n) path)
file_of state site (version.Kept n) path = kept_file (kept_at state site n) path
