-- What a host shows of its deploys.
use Rattle.std.specs.Prelude.{◌≡◌, ℕ, List, MatchOption, Option, Some, None}
use Rattle.byte_view.specs.Contents.{Contents}
use Rattle.host_names.specs.declared.digests.Digest.{Digest}
use Rattle.host_names.specs.declared.names.SiteName.{SiteName}
use Rattle.site_change.specs.declared.refusals.ChangeRefusal.TheVariants.{NoSuchDeploy}
use Rattle.site_state.specs.Files.{Paths}
use Rattle.site_state.specs.Missing.{AreMissing}
use Rattle.site_state.specs.States.{draft_at, kept_at}
use Rattle.site_state.specs.declared.values.Draft.{Draft}
use Rattle.change_undo.specs.Histories.{entry_at}
use Rattle.host_api.specs.declared.refusals.Refusal.TheVariants.{Change}
use Rattle.host_api.specs.declared.texts.DeployState.TheVariants as state
use Rattle.host_api.specs.declared.texts.Told.{Told}
use Rattle.host_api.specs.declared.texts.Told.TheVariants.{Deploy, Refused}
use Rattle.host_answers.specs.Deploys.{site_of_deploy}
use Rattle.host_server.specs.Hosts.{Host, state_of}

-- An open deploy of the site, which has a draft, is told with the digests that it lists and that are not uploaded. A kept one, which has a tree, is
-- told as kept. Without either there is no such deploy.
abbrev pub Shows : Contents → SiteName → ℕ → Option Draft → Option (Paths (List ℕ)) → Told → Type 0
Shows uploads site n (Some draft) tree told =
    (required : List Digest) × AreMissing uploads draft.files.1 required × (told ≡ Deploy n site (state.Open required))
Shows uploads site n None (Some tree) told = told ≡ Deploy n site state.Kept
Shows uploads site n None None told = told ≡ Refused (Change NoSuchDeploy)

-- The deploy of a number is told as it stands in the site of the entry that opened it. If no entry did, there is no such deploy.
abbrev pub ShowsDeploy : Host → ℕ → Told → Type 0
ShowsDeploy host n told =
    MatchOption (site_of_deploy (entry_at host.entries n)) (told ≡ Refused (Change NoSuchDeploy)) (λ site.
    Shows host.uploads site n (draft_at (state_of host) site n) (kept_at (state_of host) site n) told)
