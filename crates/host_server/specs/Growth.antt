-- What stays of a host: by nothing, step by step, and by each call of its server.
use Rattle.std.specs.Prelude.{◌≡◌, ℕ, List, [], ◌∷◌, ◌++◌, true, false, cond, Option, Some, None, Result, Ok, Err, IsTrue, refl}
use Rattle.std.proofs.Common.{inl, inr, ap, sym, subst, ◌∙◌}
use Rattle.std.specs.declared.alloc.AllocError.{AllocError}
use Rattle.host_names.specs.declared.digests.Digest.{Digest}
use Rattle.host_names.specs.declared.names.SiteName.{SiteName}
use Rattle.blob_store.specs.Calls.{Call}
use Rattle.site_change.proofs.MoreUploads.{IsWithin-itself, IsWithin-trans, kept-with_file}
use Rattle.site_change.specs.declared.commands.Command.{Command}
use Rattle.site_change.specs.declared.commands.Command.TheVariants.{Publish}
use Rattle.site_change.specs.declared.refusals.ChangeRefusal.{ChangeRefusal}
use Rattle.change_log.proofs.Longer.{with_both, with_none}
use Rattle.change_log.specs.Logs.{Log, with_entries}
use Rattle.change_undo.specs.Histories.{may_take_memory}
use Rattle.site_change.specs.declared.entries.Entry.{Entry}
use Rattle.site_change.specs.declared.entries.Entry.TheVariants.{Change, Undo}
use Rattle.http_wire.specs.Requests.{RequestParts}
use Rattle.host_api.specs.declared.refusals.Refusal.{Refusal}
use Rattle.host_api.specs.declared.refusals.Refusal.TheVariants as reason
use Rattle.host_api.specs.declared.texts.Told.{Told}
use Rattle.host_api.specs.declared.texts.Told.TheVariants as tells
use Rattle.host_disk.specs.declared.disks.Disk.{Ghosts}
use Rattle.host_replies.specs.Replies.{Answer}
use Rattle.host_answers.proofs.Growing.{StaysBy, answers_grow}
use Rattle.host_answers.specs.Answers.{AnswersBy}
use Rattle.host_answers.specs.declared.stops.Stop.{Stop}
use Rattle.host_answers.specs.declared.stops.Stop.TheVariants as stop
use Rattle.host_answers.specs.declared.uploads.Uploaded.{Uploaded}
use Rattle.host_server.specs.Hosts.{Grows, Host, next_number, with_entry, with_upload}
use Rattle.host_server.specs.Outcomes.{Outcome, is_ready, judge_in, published_if_ready, unless_refused, uploaded}
use Rattle.host_server.specs.Reasons.{commit_refusal, undo_refusal}
use Rattle.host_server.specs.ServerHouses.{CommitsAt, DoesUploadTo, EntersAt, LooksAt, UndoesAt, UnlessBroken, calls_of, failed_at, gave_at}
use Rattle.host_server.specs.Storing.{DoesUpload}
use Rattle.host_server.specs.declared.servers.Server.{Server}

-- ---- hosts

pub itself : (host : Host) → Grows host host
itself host = record { same_limit = refl; more = []; longer = sym (with_none host.entries); uploads = IsWithin-itself host.uploads }

pub grows_then : (a b c : Host) → Grows a b → Grows b c → Grows a c
grows_then a b c ab bc = record {
  same_limit = bc.same_limit ∙ ab.same_limit;
  more = ab.more ++ bc.more;
  longer = bc.longer ∙ ap (λ (l : Log). with_entries l bc.more) ab.longer ∙ with_both a.entries ab.more bc.more;
  uploads = IsWithin-trans a.uploads b.uploads c.uploads ab.uploads bc.uploads;
}

pub grows_same : (old new : Host) → new ≡ old → Grows old new
grows_same old new is = subst (Grows old) (sym is) (itself old)

pub grows_entry : (old new : Host) (entry : Entry) → new ≡ with_entry old entry → Grows old new
grows_entry old new entry is =
    subst (Grows old) (sym is) (record { same_limit = refl; more = entry ∷ []; longer = refl; uploads = IsWithin-itself old.uploads })

pub grows_upload : (old new : Host) (bytes : List ℕ) → new ≡ with_upload old bytes → Grows old new
grows_upload old new bytes is =
    subst (Grows old) (sym is) (record { same_limit = refl; more = []; longer = sym (with_none old.entries); uploads = kept-with_file old.uploads bytes })

unless_refused_grows : (host : Host) (refusal : Option ChangeRefusal) (out : Outcome) → Grows host out.host → Grows host (unless_refused host refusal out).host
unless_refused_grows host None out grows = grows
unless_refused_grows host (Some why) out grows = itself host

-- the deploy is published
abbrev published_now : Host → SiteName → ℕ → (Option ℕ → Told) → Outcome
published_now host site n tell = record { told = tell (Some (next_number host)); host = with_entry host (Change (Publish site n)) }

published_grows : (host : Host) (site : SiteName) (n : ℕ) (tell : Option ℕ → Told) → Grows host (published_if_ready host site n tell).host
published_grows host site n tell =
    elim (is_ready host site n) as (λ b. Grows host (cond b (unless_refused host (commit_refusal host (Publish site n)) (published_now host site n tell)) (record { told = tell None; host = host })).host) [
      | true ↦ unless_refused_grows host (commit_refusal host (Publish site n)) (published_now host site n tell)
          (grows_entry host (with_entry host (Change (Publish site n))) (Change (Publish site n)) refl)
      | false ↦ itself host
    ]

uploaded_grows : (host : Host) (n : ℕ) (bytes : List ℕ) (judged : Result (SiteName × Digest) Refusal) → Grows host (uploaded host n bytes judged).host
uploaded_grows host n bytes (Ok at) =
    let kept = with_upload host bytes in
    let tell : Option ℕ → Told = λ published. tells.Uploaded published at.1 in
    grows_then host kept (published_if_ready kept at.0 n tell).host (grows_upload host kept bytes refl) (published_grows kept at.0 n tell)
uploaded_grows host n bytes (Err why) = itself host

-- ---- the calls of a server

module _ {S D : Type 0} {disk : Ghosts D} (did : S → Call → S → Type 0) (failures : S → ℕ) where
  enters_grows : (entry : Entry) (refusal : Option ChangeRefusal) (may_lack : Type 0) (old : Server S D disk) (done : Result ℕ Stop) (new : Server S D disk)
      → EntersAt entry refusal may_lack old done new → Grows old.house new.house
  enters_grows entry refusal may_lack old (Ok number) new (none, is, house, put, files) = grows_entry old.house new.house entry house
  enters_grows entry refusal may_lack old (Err stop.Broken) new never = absurd never
  enters_grows entry refusal may_lack old (Err (stop.Refused why)) new (is, (house, journal, files)) = grows_same old.house new.house house
  enters_grows entry refusal may_lack old (Err stop.OutOfMemory) new (may, (house, journal, files)) = grows_same old.house new.house house
  enters_grows entry refusal may_lack old (Err stop.Device) new (none, house, put, files) = grows_same old.house new.house house

  upload_grows : (old : Server S D disk) (judged : Result (SiteName × Digest) Refusal) (n : ℕ) (bytes : List ℕ) (done : Result Uploaded Refusal) (new : Server S D disk)
      → DoesUpload did failures old judged n bytes done new → Grows old.house new.house
  upload_grows old judged n bytes done new (inl (is, kept)) = subst (Grows old.house) (sym is.host_is) (uploaded_grows old.house n bytes judged)
  upload_grows old judged n bytes done new (inr (inl (why, refused, is, kept))) = grows_same old.house new.house refused.same
  upload_grows old judged n bytes done new (inr (inr (missed, left, stops))) = grows_upload old.house new.house bytes left.known

  same_grows : (old new : Server S D disk) → new ≡ old → Grows old.house new.house
  same_grows old new is = grows_same old.house new.house (ap (λ (s : Server S D disk). s.house) is)

  unless_grows : {A : Type 0} (broken : A) (does : Server S D disk → A → Server S D disk → Type 0) (old : Server S D disk) (done : A) (new : Server S D disk)
      → (does old done new → Grows old.house new.house) → UnlessBroken broken does old done new → Grows old.house new.house
  unless_grows broken does old done new grows (inl (is, told, same)) = same_grows old new same
  unless_grows broken does old done new grows (inr (whole, is)) = grows is

  commits_grows : (old : Server S D disk) (command : Command) (done : Result ℕ Stop) (new : Server S D disk) → CommitsAt old command done new → Grows old.house new.house
  commits_grows old command done new is =
      let refusal = commit_refusal old.house command in
      unless_grows (Err stop.Broken) (EntersAt (Change command) refusal (refusal ≡ None)) old done new
      (enters_grows (Change command) refusal (refusal ≡ None) old done new) is

  undoes_grows : (old : Server S D disk) (site : SiteName) (k : ℕ) (done : Result ℕ Stop) (new : Server S D disk) → UndoesAt old site k done new → Grows old.house new.house
  undoes_grows old site k done new is =
      let refusal = undo_refusal old.house site k in
      let may = IsTrue (may_take_memory refusal) in
      unless_grows (Err stop.Broken) (EntersAt (Undo site k) refusal may) old done new (enters_grows (Undo site k) refusal may old done new) is

  uploads_grow : (old : Server S D disk) (site : SiteName) (n : ℕ) (path bytes : List ℕ) (done : Result Uploaded Refusal) (new : Server S D disk)
      → UnlessBroken (Err reason.Broken) (DoesUploadTo did failures site n path bytes) old done new → Grows old.house new.house
  uploads_grow old site n path bytes done new is =
      unless_grows (Err reason.Broken) (DoesUploadTo did failures site n path bytes) old done new (upload_grows old (judge_in old.house site n path bytes) n bytes done new) is

  looks_grows : (old : Server S D disk) (done : Result (Unit {0}) AllocError) (new : Server S D disk) → LooksAt old done new → Grows old.house new.house
  looks_grows old (Ok done) new looks = same_grows old new looks.0
  looks_grows old (Err why) new looks = absurd looks

  growing : StaysBy (λ (old new : Server S D disk). Grows old.house new.house) (calls_of did failures) (gave_at did failures) (failed_at did failures)
  growing = record {
    stays = λ server. itself server.house;
    goes_on = λ first mid last. grows_then first.house mid.house last.house;
    gave_grows = λ old hold new is. grows_same old.house new.house is.1.0;
    failed_grows = λ old file first last why new is. grows_same old.house new.house is.1.0;
    commits = λ old command done new. commits_grows old command done new;
    undoes = λ old site change done new. undoes_grows old site change done new;
    uploads = λ old site n path bytes done new is. uploads_grow old site n path bytes done new is.0;
  }

  pub grew : (old new : Server S D disk) (parts : RequestParts) (body : List ℕ) (answer : Answer)
      → AnswersBy (calls_of did failures) (gave_at did failures) (failed_at did failures) old parts body answer new → Grows old.house new.house
  grew old new parts body answer is =
      answers_grow (λ (a b : Server S D disk). Grows a.house b.house) (calls_of did failures) (gave_at did failures) (failed_at did failures) growing answer looks_grows
      parts body old new is
