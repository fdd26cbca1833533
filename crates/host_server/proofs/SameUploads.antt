-- What no file is read or stored for leaves the uploads as they were.
use Rattle.std.proofs.Common.{◌≡◌, inl, inr, ℕ, true, false, cond, MatchOption, Option, Some, None, Result, Ok, Err, refl, ap, ◌∙◌}
use Rattle.host_names.specs.declared.names.SiteName.{SiteName}
use Rattle.site_change.specs.declared.refusals.ChangeRefusal.{ChangeRefusal}
use Rattle.site_change.specs.declared.commands.Command.{Command}
use Rattle.site_change.specs.declared.commands.Command.TheVariants as command
use Rattle.change_undo.specs.Histories.{entry_at}
use Rattle.site_change.specs.declared.entries.Entry.{Entry}
use Rattle.site_change.specs.declared.entries.Entry.TheVariants.{Change, Undo}
use Rattle.host_api.specs.declared.bodies.Ask.{Ask}
use Rattle.host_api.specs.declared.bodies.Ask.TheVariants as ask
use Rattle.host_api.specs.declared.refusals.Refusal.{Refusal}
use Rattle.host_api.specs.declared.refusals.Refusal.TheVariants as reason
use Rattle.host_api.specs.declared.texts.Told.{Told}
use Rattle.host_api.specs.declared.texts.Told.TheVariants as told
use Rattle.host_server.specs.Asks.{ComesOf, HostStops}
use Rattle.host_answers.specs.Deploys.{site_of_deploy}
use Rattle.host_server.specs.Hosts.{Host, next_number, with_entry}
use Rattle.host_server.specs.Outcomes.{IsCommitted, Outcome, entering, is_ready, outcome_on, published_if_ready, refused, unless_refused}
use Rattle.host_server.specs.Reasons.{commit_refusal, undo_refusal}

unless_same : (host : Host) (refusal : Option ChangeRefusal) (out : Outcome) → out.host.uploads ≡ host.uploads → (unless_refused host refusal out).host.uploads ≡ host.uploads
unless_same host None out same = same
unless_same host (Some why) out same = refl

-- the deploy is published
abbrev published_now : Host → SiteName → ℕ → (Option ℕ → Told) → Outcome
published_now host site n tell = record { told = tell (Some (next_number host)); host = with_entry host (Change (command.Publish site n)) }

pub published_same : (host : Host) (site : SiteName) (n : ℕ) (tell : Option ℕ → Told) → (published_if_ready host site n tell).host.uploads ≡ host.uploads
published_same host site n tell =
    elim (is_ready host site n) as (λ b. (cond b (unless_refused host (commit_refusal host (command.Publish site n)) (published_now host site n tell)) (record { told = tell None; host = host })).host.uploads ≡ host.uploads) [
      | true ↦ unless_same host (commit_refusal host (command.Publish site n)) (published_now host site n tell) refl
      | false ↦ refl
    ]

enter_same : (host : Host) (entry : Entry) (refusal : Option ChangeRefusal) → (unless_refused host refusal (entering host entry)).host.uploads ≡ host.uploads
enter_same host entry refusal = unless_same host refusal (entering host entry) refl

on_same : (host : Host) (change : SiteName → Command) (site : Option SiteName) → (outcome_on host change site).host.uploads ≡ host.uploads
on_same host change None = refl
on_same host change (Some site) = enter_same host (Change (change site)) (commit_refusal host (change site))

pub uploads_of : (a b : Host) → a ≡ b → a.uploads ≡ b.uploads
uploads_of a b is = ap (λ (h : Host). h.uploads) is

uploads_told : (a b : Outcome) → a ≡ b → a.host.uploads ≡ b.host.uploads
uploads_told a b is = ap (λ (o : Outcome). o.host.uploads) is

-- ---- without the files

committed_same : (host : Host) (change : Command) (out : Outcome) → IsCommitted host change out → out.host.uploads ≡ host.uploads
committed_same host (command.Open site files auto) out (required, missing, is) =
    let opened = with_entry host (Change (command.Open site files auto)) in
    let tell : Option ℕ → Told = λ published. told.Opened (next_number host) published required in
    uploads_told out (published_if_ready opened site (next_number host) tell) is ∙ published_same opened site (next_number host) tell
committed_same host change out is = uploads_told out (entering host (Change change)) is

commit_same : (host : Host) (change : Command) (out : Outcome) (refusal : Option ChangeRefusal)
    → MatchOption refusal (IsCommitted host change out) (λ why. out ≡ refused host (reason.Change why)) → out.host.uploads ≡ host.uploads
commit_same host change out None is = committed_same host change out is
commit_same host change out (Some why) is = uploads_told out (refused host (reason.Change why)) is

pub host_same : (host : Host) (asking : Result Ask Refusal) (out : Outcome) → ComesOf host asking out → out.host.uploads ≡ host.uploads
host_same host (Err why) out is = uploads_told out (refused host why) is
host_same host (Ok (ask.Command change)) out is = commit_same host change out (commit_refusal host change) is
host_same host (Ok (ask.Undo site k)) out is =
    uploads_told out (unless_refused host (undo_refusal host site k) (entering host (Undo site k))) is ∙ enter_same host (Undo site k) (undo_refusal host site k)
host_same host (Ok (ask.Changes site)) out is = uploads_told out _ is
host_same host (Ok (ask.Deploy n)) out (shows, same) = uploads_of out.host host same
host_same host (Ok (ask.RemoveDeploy n)) out is =
    uploads_told out _ is ∙ on_same host (λ site. command.RemoveDeploy site n) (site_of_deploy (entry_at host.entries n))
host_same host (Ok (ask.Cancel n)) out is = uploads_told out _ is ∙ on_same host (λ site. command.Cancel site n) (site_of_deploy (entry_at host.entries n))
host_same host (Ok (ask.Read site version path)) out is = absurd is
host_same host (Ok (ask.Upload n path)) out is = absurd is

-- the same where there is no memory for an entry, or the journal's device fails
pub stops_same : (host next : Host) (asking : Result Ask Refusal) (missed : Entry) → HostStops host asking missed next → next.uploads ≡ host.uploads
stops_same host next (Err why) missed is = absurd is
stops_same host next (Ok (ask.Command change)) missed (accepted, inl (is, alone)) = uploads_of next host is
stops_same host next (Ok (ask.Command change)) missed (accepted, inr (is, published, publishing)) = uploads_of next _ is
stops_same host next (Ok (ask.Undo site k)) missed is = uploads_of next host is.0
stops_same host next (Ok (ask.Changes site)) missed is = absurd is
stops_same host next (Ok (ask.Deploy n)) missed is = absurd is
stops_same host next (Ok (ask.RemoveDeploy n)) missed is = uploads_of next host is.0
stops_same host next (Ok (ask.Cancel n)) missed is = uploads_of next host is.0
stops_same host next (Ok (ask.Read site version path)) missed is = absurd is
stops_same host next (Ok (ask.Upload n path)) missed is = absurd is
