-- What a host tells of a change, an undo or an upload, and what it has then.
use Rattle.std.specs.Prelude.{◌≡◌, ◌⊎◌, ℕ, List, Bool, Option, Some, None, Result, Ok, Err, ok_or, if◌then◌else◌}
use Rattle.host_names.specs.Digests.{digest_of}
use Rattle.host_names.specs.declared.digests.Digest.{Digest}
use Rattle.host_names.specs.declared.names.SiteName.{SiteName}
use Rattle.site_change.specs.declared.refusals.ChangeRefusal.{ChangeRefusal}
use Rattle.site_change.specs.declared.refusals.ChangeRefusal.TheVariants.{NoSuchDeploy}
use Rattle.site_state.specs.Deploys.{is_ready_draft, listed_at}
use Rattle.site_state.specs.Missing.{AreMissing}
use Rattle.site_state.specs.States.{draft_at, kept_at}
use Rattle.site_state.specs.Values.{digest_eq}
use Rattle.site_change.specs.declared.commands.Command.{Command}
use Rattle.site_change.specs.declared.commands.Command.TheVariants.{Open, Publish}
use Rattle.site_change.specs.declared.entries.Entry.{Entry}
use Rattle.site_change.specs.declared.entries.Entry.TheVariants.{Change}
use Rattle.change_undo.specs.Histories.{entry_at}
use Rattle.host_api.specs.Bodies.{then_with}
use Rattle.host_api.specs.declared.refusals.Refusal.{Refusal}
use Rattle.host_api.specs.declared.refusals.Refusal.TheVariants as reason
use Rattle.host_api.specs.declared.texts.Told.{Told}
use Rattle.host_api.specs.declared.texts.Told.TheVariants.{Opened, Uploaded, Entered, Refused}
use Rattle.host_answers.specs.Deploys.{site_of_deploy}
use Rattle.host_server.specs.Hosts.{Host, state_of, next_number, with_entry, with_upload}
use Rattle.host_server.specs.Journals.{IsStopped}
use Rattle.host_server.specs.Reasons.{commit_refusal}

-- what the host tells, and what it has then
pub record Outcome : Type 0 where
  pub told : Told
  pub host : Host

-- the reason is told, and the host stays as it is
abbrev pub refused : Host → Refusal → Outcome
refused host why = record { told = Refused why; host = host }

-- With no reason against it, this outcome stands. Else the reason is told, and the host stays as it is.
abbrev pub unless_refused : Host → Option ChangeRefusal → Outcome → Outcome
unless_refused host None out = out
unless_refused host (Some why) out = refused host (reason.Change why)

-- the number of the entry is told, and the host has the entry
abbrev pub entering : Host → Entry → Outcome
entering host entry = record { told = Entered (next_number host); host = with_entry host entry }

-- ---- deploys that publish themselves

-- whether the deploy of a number publishes itself now
abbrev pub is_ready : Host → SiteName → ℕ → Bool
is_ready host site n = is_ready_draft host.uploads (draft_at (state_of host) site n)

-- A ready deploy is published, and the number of that entry is told. If publishing is refused, only the reason is told: the deploy stays open, and
-- what was done before stays. A deploy that is not ready stays open too, and it is told that no entry published it.
abbrev pub published_if_ready : Host → SiteName → ℕ → (Option ℕ → Told) → Outcome
published_if_ready host site n tell =
    if is_ready host site n
    then unless_refused host (commit_refusal host (Publish site n))
    (record { told = tell (Some (next_number host)); host = with_entry host (Change (Publish site n)) })
    else record { told = tell None; host = host }

-- ---- commands

-- A command that is not refused comes to this outcome. An opening also publishes its deploy, if that is ready then; it tells which files of the
-- deploy are not uploaded. Any other command is entered.
abbrev pub IsCommitted : Host → Command → Outcome → Type 0
IsCommitted host (Open site files auto) out =
    (required : List Digest) × AreMissing host.uploads files.1 required
    × (out ≡ published_if_ready (with_entry host (Change (Open site files auto))) site (next_number host)
    (λ published. Opened (next_number host) published required))
IsCommitted host command out = out ≡ entering host (Change command)

-- the command is entered, unless it is refused; without a site there is no such deploy
abbrev pub outcome_on : Host → (SiteName → Command) → Option SiteName → Outcome
outcome_on host command None = refused host (reason.Change NoSuchDeploy)
outcome_on host command (Some site) =
    unless_refused host (commit_refusal host (command site)) (entering host (Change (command site)))

-- the same of the deploy of a number, in the site of the entry that opened it
abbrev pub deploy_outcome : Host → ℕ → (SiteName → Command) → Outcome
deploy_outcome host n command = outcome_on host command (site_of_deploy (entry_at host.entries n))

-- ---- uploads

-- the digest that is listed, where it is that of the bytes, or the first reason against them
abbrev pub judge_listed : Option (Option Digest) → List ℕ → Result Digest Refusal
judge_listed None bytes = Err (reason.Change NoSuchDeploy)
judge_listed (Some None) bytes = Err reason.NotListed
judge_listed (Some (Some digest)) bytes = if digest_eq digest (digest_of bytes) then Ok digest else Err reason.WrongDigest

-- the site, and the digest that its deploy of this number lists at the path; or the first reason against the bytes
abbrev pub judge_in : Host → SiteName → ℕ → List ℕ → List ℕ → Result (SiteName × Digest) Refusal
judge_in host site n path bytes =
    then_with (judge_listed (listed_at (draft_at (state_of host) site n) (kept_at (state_of host) site n) path) bytes) (λ digest. Ok (site, digest))

-- the same in the site of the entry that opened the deploy
abbrev pub judge_upload : Host → ℕ → List ℕ → List ℕ → Result (SiteName × Digest) Refusal
judge_upload host n path bytes =
    then_with (ok_or (site_of_deploy (entry_at host.entries n)) (reason.Change NoSuchDeploy)) (λ site. judge_in host site n path bytes)

-- the bytes are kept, and a deploy that they leave ready is published
abbrev pub uploaded : Host → ℕ → List ℕ → Result (SiteName × Digest) Refusal → Outcome
uploaded host n bytes (Ok at) = published_if_ready (with_upload host bytes) at.0 n (λ published. Uploaded published at.1)
uploaded host n bytes (Err why) = refused host why

-- ---- what private functions say

-- the entry that publishes a deploy, where it is ready; the reason why it is refused, if it is; and what the host has then
pub record Publishing : Type 0 where
  pub entry : Result (Option ℕ) Refusal
  pub host : Host

-- the publishing by this command, where this is the first reason against it
abbrev pub publishing : Host → Command → Option ChangeRefusal → Publishing
publishing host command (Some why) = record { entry = Err (reason.Change why); host = host }
publishing host command None = record { entry = Ok (Some (next_number host)); host = with_entry host (Change command) }

-- the publishing of a deploy that is ready; of one that is not, nothing
abbrev pub publishing_if_ready : Host → SiteName → ℕ → Publishing
publishing_if_ready host site n =
    if is_ready host site n
    then publishing host (Publish site n) (commit_refusal host (Publish site n))
    else record { entry = Ok None; host = host }

-- the entry and what the host has are those, unless there was no memory or the journal's device failed
abbrev pub Publishes : Result (Option ℕ) Refusal → Host → Publishing → Type 0
Publishes entry host p = IsStopped entry ⊎ ((entry ≡ p.entry) × (host ≡ p.host))
