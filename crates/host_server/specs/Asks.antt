-- What a request is answered, and what the server has then.
use Rattle.std.specs.Prelude.{◌≡◌, ◌⊎◌, ℕ, List, true, false, Some, None, Result, Ok, Err, IsTrue, MatchOption}
use Rattle.blob_store.specs.Calls.{Call}
use Rattle.http_wire.specs.Requests.{RequestParts}
use Rattle.host_names.specs.declared.names.SiteName.{SiteName}
use Rattle.site_change.specs.declared.commands.Command.{Command}
use Rattle.site_change.specs.declared.commands.Command.TheVariants.{Cancel, RemoveDeploy}
use Rattle.site_change.specs.declared.entries.Entry.{Entry}
use Rattle.site_change.specs.declared.entries.Entry.TheVariants.{Change, Undo}
use Rattle.change_undo.specs.Histories.{entry_at}
use Rattle.host_api.specs.declared.bodies.Ask.{Ask}
use Rattle.host_api.specs.declared.bodies.Ask.TheVariants as ask
use Rattle.host_api.specs.declared.refusals.Refusal.{Refusal}
use Rattle.host_api.specs.declared.refusals.Refusal.TheVariants as reason
use Rattle.host_api.specs.declared.texts.Told.TheVariants.{Changes}
use Rattle.host_disk.specs.declared.disks.Disk.{Ghosts}
use Rattle.host_answers.specs.Asking.{asked_for, asking_takes}
use Rattle.host_answers.specs.Deploys.{site_of_deploy}
use Rattle.host_answers.specs.ChangeLists.{shown_lines}
use Rattle.host_server.specs.Files.{IsReadReply}
use Rattle.host_server.specs.HeldUp.{holds_up}
use Rattle.host_server.specs.Hosts.{Host, state_of, with_entry}
use Rattle.host_server.specs.PublishedDeploys.{opens_published, publishing_of}
use Rattle.host_server.specs.Outcomes.{IsCommitted, Outcome, deploy_outcome, entering, judge_upload, refused, unless_refused}
use Rattle.host_server.specs.Reasons.{commit_refusal, undo_refusal}
use Rattle.host_replies.specs.Replies.{Answer, Tells, refused_answer}
use Rattle.host_server.specs.Shown.{ShowsDeploy}
use Rattle.host_server.specs.ServerJournals.{Breaks, GoesOn}
use Rattle.host_server.specs.Storing.{IsUnpublished, IsUploadReply}
use Rattle.host_replies.specs.Versions.{file_of}
use Rattle.host_server.specs.declared.servers.Server.{Server}

-- ---- without the files

-- A request that reads no file and stores none comes to this outcome: what is told, and what the host has then. If digests are told that are missing,
-- they are the right ones.
abbrev pub ComesOf : Host → Result Ask Refusal → Outcome → Type 0
ComesOf host (Err refusal) out = out ≡ refused host refusal
ComesOf host (Ok (ask.Command command)) out =
    MatchOption (commit_refusal host command) (IsCommitted host command out) (λ why. out ≡ refused host (reason.Change why))
ComesOf host (Ok (ask.Undo site change)) out =
    out ≡ unless_refused host (undo_refusal host site change) (entering host (Undo site change))
ComesOf host (Ok (ask.Changes site)) out = out ≡ record { told = Changes (shown_lines host.entries site); host = host }
ComesOf host (Ok (ask.Deploy deploy)) out = ShowsDeploy host deploy out.told × (out.host ≡ host)
ComesOf host (Ok (ask.RemoveDeploy deploy)) out = out ≡ deploy_outcome host deploy (λ site. RemoveDeploy site deploy)
ComesOf host (Ok (ask.Cancel deploy)) out = out ≡ deploy_outcome host deploy (λ site. Cancel site deploy)
ComesOf host asking out = ⊥

-- A command on the deploy of this number, this entry, isn't put into the journal, though an entry opened the deploy and nothing refuses the command
-- in its site. The host stays as it was.
abbrev pub DeployStops : Host → ℕ → (SiteName → Command) → Entry → Host → Type 0
DeployStops host n command missed next =
    (next ≡ host) × (site : SiteName) × (site_of_deploy (entry_at host.entries n) ≡ Some site) × (commit_refusal host (command site) ≡ None)
    × (missed ≡ Change (command site))

-- Nothing refuses what is asked for, but this entry of it isn't put: there is no memory for it, or the device fails while it is put into the journal.
-- The host stays as it was; or it has opened a deploy, and doesn't get the entry that would publish the deploy.
abbrev pub HostStops : Host → Result Ask Refusal → Entry → Host → Type 0
HostStops host (Ok (ask.Command command)) missed next =
    (commit_refusal host command ≡ None)
    × (((next ≡ host) × (missed ≡ Change command))
    ⊎ ((next ≡ with_entry host (Change command)) × IsTrue (opens_published host command) × (publishing_of host command ≡ Some missed)))
HostStops host (Ok (ask.Undo site change)) missed next =
    (next ≡ host) × (undo_refusal host site change ≡ None) × (missed ≡ Undo site change)
HostStops host (Ok (ask.RemoveDeploy deploy)) missed next = DeployStops host deploy (λ site. RemoveDeploy site deploy) missed next
HostStops host (Ok (ask.Cancel deploy)) missed next = DeployStops host deploy (λ site. Cancel site deploy) missed next
HostStops host asking missed next = ⊥

-- ---- with them

-- The reply to what a request asks for, and what the server has then: only a read and an upload call the shelf. Where there is no memory for the
-- text of the reply, all else is done.
abbrev pub IsReplyToAsk : {S D : Type 0} {disk : Ghosts D} → (did : S → Call → S → Type 0) → (failures : S → ℕ) → Server S D disk → RequestParts → List ℕ → Result Ask Refusal → Answer → Server S D disk → Type 0
IsReplyToAsk did failures server parts body (Ok (ask.Read site version path)) answer next =
    IsReadReply did failures server parts path (file_of (state_of server.house) site version path) answer next
IsReplyToAsk did failures server parts body (Ok (ask.Upload deploy path)) answer next = IsUploadReply did failures server deploy path body answer next
IsReplyToAsk did failures server parts body asking answer next =
    (out : Outcome) × ComesOf server.house asking out × Tells out.told answer × (next.house ≡ out.host) × (next.files ≡ server.files)

-- The same of a server. An upload whose deploy isn't published for this reason keeps its bytes.
abbrev pub AskStops : {S D : Type 0} {disk : Ghosts D} → (did : S → Call → S → Type 0) → Server S D disk → List ℕ → Result Ask Refusal → Entry → Server S D disk → Type 0
AskStops did server body (Ok (ask.Upload deploy path)) missed next =
    IsUnpublished did server (judge_upload server.house deploy path body) deploy body missed next
AskStops did server body asking missed next = HostStops server.house asking missed next.house × (next.files ≡ server.files)

-- ---- a request

-- A request of these parts and this body gets this reply, and the server is the next one then: what it asks for is held up, or is answered.
abbrev pub IsReply : {S D : Type 0} {disk : Ghosts D} → (did : S → Call → S → Type 0) → (failures : S → ℕ) → Server S D disk → RequestParts → List ℕ → Answer → Server S D disk → Type 0
IsReply did failures server parts body answer next =
    ((holds_up server (asked_for parts body) ≡ true) × (answer ≡ refused_answer reason.Broken) × (next ≡ server))
    ⊎ ((holds_up server (asked_for parts body) ≡ false) × IsReplyToAsk did failures server parts body (asked_for parts body) answer next)

-- A request runs out of memory before its reply. If it takes memory to find what is asked for, the server stays as it was; or a request that isn't
-- held up gets an entry that isn't put.
abbrev pub RunsOut : {S D : Type 0} {disk : Ghosts D} → (did : S → Call → S → Type 0) → Server S D disk → RequestParts → List ℕ → Server S D disk → Type 0
RunsOut did server parts body next =
    ((next ≡ server) × IsTrue (asking_takes parts body))
    ⊎ ((holds_up server (asked_for parts body) ≡ false) × (missed : Entry) × AskStops did server body (asked_for parts body) missed next)

-- The answer to a request, and what the server has then: the reply to it, or that there is no memory, and the journal then has what the host
-- got; or that the device failed while the entry was put into the journal that wasn't made.
abbrev pub IsAnswer : {S D : Type 0} {disk : Ghosts D} → (did : S → Call → S → Type 0) → (failures : S → ℕ) → Server S D disk → RequestParts → List ℕ → Answer → Server S D disk → Type 0
IsAnswer did failures server parts body answer next =
    (IsReply did failures server parts body answer next × GoesOn server next)
    ⊎ ((answer ≡ refused_answer reason.OutOfMemory) × RunsOut did server parts body next × GoesOn server next)
    ⊎ ((answer ≡ refused_answer reason.Device) × (missed : Entry) × AskStops did server body (asked_for parts body) missed next
    × Breaks server missed next)
