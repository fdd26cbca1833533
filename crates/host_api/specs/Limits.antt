-- How many bytes a body may have.
use Rattle.std.specs.Prelude.{ℕ, List, Bool, true, false, ◌&&◌, Option, Some, None, if◌then◌else◌, codes}
use Rattle.std.specs.Str.{bytes_eq}
use Rattle.host_api.specs.Routes.{rows, found_in}
use Rattle.host_api.specs.Targets.{Bindings, path_of}
use Rattle.host_api.specs.declared.resources.Resource.{Resource}
use Rattle.host_api.specs.declared.resources.ResourceKind.{ResourceKind}
use Rattle.host_api.specs.declared.resources.ResourceKind.TheVariants.{OfDeploy}
use Rattle.host_api.specs.declared.resources.DeployResource.TheVariants.{File}

-- whether it is a file of a deploy
abbrev pub is_deploy_file : ResourceKind → Bool
is_deploy_file (OfDeploy File) = true
is_deploy_file other = false

-- whether what was found is a file of a deploy
abbrev pub is_upload : Option (Resource × Bindings) → Bool
is_upload None = false
is_upload (Some found) = is_deploy_file found.0.kind

-- what the target names
abbrev pub found_at : List ℕ → Option (Resource × Bindings)
found_at target = found_in rows (path_of target)

-- a file that is uploaded may have 16 MiB, and any other body 4 MiB
unfoldable pub body_limit : List ℕ → List ℕ → ℕ
body_limit method target =
    if bytes_eq method (codes "PUT") && is_upload (found_at target) then 16777216 else 4194304
