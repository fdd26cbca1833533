-- The bytes of an upload are stored, known and published.
use Rattle.std.proofs.Common.{◌≡◌, ◌≢◌, ◌⊎◌, inl, inr, ℕ, List, true, false, cond, Option, Some, None, Result, Ok, Err, IsTrue, OnErr, refl, sym, ap, subst, ◌∙◌}
use Rattle.host_names.specs.declared.digests.Digest.{Digest}
use Rattle.host_names.specs.declared.names.SiteName.{SiteName}
use Rattle.blob_store.specs.Calls.{Call}
use Rattle.site_state.specs.Deploys.{listed_at}
use Rattle.site_state.specs.States.{State, draft_at, kept_at}
use Rattle.site_change.specs.declared.commands.Command.TheVariants.{Publish}
use Rattle.site_change.specs.declared.refusals.ChangeRefusal.{ChangeRefusal}
use Rattle.site_change.specs.declared.entries.Entry.TheVariants.{Change}
use Rattle.host_api.specs.Bodies.{then_with}
use Rattle.host_api.specs.declared.refusals.Refusal.{Refusal}
use Rattle.host_api.specs.declared.refusals.Refusal.TheVariants as reason
use Rattle.host_api.specs.declared.texts.Told.{Told}
use Rattle.host_api.specs.declared.texts.Told.TheVariants as told
use Rattle.host_answers.specs.Answers.{told_upload}
use Rattle.host_answers.specs.declared.uploads.Uploaded.{Uploaded}
use Rattle.host_disk.specs.declared.disks.Disk.{Ghosts}
use Rattle.host_server.specs.Hosts.{Host, next_number, state_of, with_entry, with_upload}
use Rattle.host_server.specs.Journals.{IsJournaled, IsStopped, KeepsUp}
use Rattle.host_server.specs.PublishedDeploys.{is_published}
use Rattle.host_server.specs.Outcomes.{Outcome, Publishes, Publishing, is_ready, judge_in, judge_listed, published_if_ready, publishing, publishing_if_ready, unless_refused, uploaded}
use Rattle.host_server.specs.Reasons.{commit_refusal}
use Rattle.host_server.specs.ServerJournals.{Breaks, GoesOn}
use Rattle.host_server.specs.Storing.{DoesUpload, IsStored, IsUnpublished}
use Rattle.host_server.specs.declared.servers.Server.{Server}
use Rattle.host_server.proofs.Journaling.{journaled_as, journaled_then, keeps_entries, keeps_same}
use Rattle.host_server.proofs.StoredIf.{IsStoredIf}

-- ---- what an upload does

left_at : {A E : Type 0} (L : Type 0) (r : Result A E) (why : E) → r ≡ Err why → OnErr r L → L
left_at L (Ok x) why is left = absurd (cc is)
left_at L (Err e) why is left = left

-- the deploy's site and the digest that it lists, or the first reason against the bytes
abbrev Judged : Type 0
Judged = Result (SiteName × Digest) Refusal

abbrev with_site : SiteName → Result Digest Refusal → Judged
with_site site found = then_with found (λ digest. Ok (site, digest))

-- the state that a host lends is its own
pub judged_by : (host : Host) (lent : State) (site : SiteName) (n : ℕ) (path bytes : List ℕ) (digest : Digest) → lent ≡ state_of host
    → judge_listed (listed_at (draft_at lent site n) (kept_at lent site n) path) bytes ≡ Ok digest → judge_in host site n path bytes ≡ Ok (site, digest)
judged_by host lent site n path bytes digest same is =
    ap (with_site site) (subst (λ (s : State). judge_listed (listed_at (draft_at s site n) (kept_at s site n) path) bytes ≡ Ok digest) same is)

-- ---- what is told of a publishing

-- of the entry that published, or of the reason against it
abbrev pub told_of : Result (Option ℕ) Refusal → (Option ℕ → Told) → Told
told_of (Ok published) tell = tell published
told_of (Err why) tell = told.Refused why

abbrev then_published : Publishing → (Option ℕ → Told) → Outcome
then_published p tell = record { told = told_of p.entry tell; host = p.host }

-- the deploy is published
abbrev published_now : Host → SiteName → ℕ → (Option ℕ → Told) → Outcome
published_now host site n tell = record { told = tell (Some (next_number host)); host = with_entry host (Change (Publish site n)) }

unless_as : (host : Host) (site : SiteName) (n : ℕ) (tell : Option ℕ → Told) (refusal : Option ChangeRefusal)
    → unless_refused host refusal (published_now host site n tell) ≡ then_published (publishing host (Publish site n) refusal) tell
unless_as host site n tell None = refl
unless_as host site n tell (Some why) = refl

-- the outcome is what is told of the publishing
published_as : (host : Host) (site : SiteName) (n : ℕ) (tell : Option ℕ → Told)
    → published_if_ready host site n tell ≡ then_published (publishing_if_ready host site n) tell
published_as host site n tell =
    elim (is_ready host site n) as (λ b. cond b (unless_refused host (commit_refusal host (Publish site n)) (published_now host site n tell)) (record { told = tell None; host = host })
    ≡ then_published (cond b (publishing host (Publish site n) (commit_refusal host (Publish site n))) (record { entry = Ok None; host = host })) tell) [
      | true ↦ unless_as host site n tell (commit_refusal host (Publish site n))
      | false ↦ refl
    ]

module _ {S D : Type 0} {disk : Ghosts D} (did : S → Call → S → Type 0) (failures : S → ℕ) where
  pub not_judged : (server : Server S D disk) (judged : Judged) (n : ℕ) (bytes : List ℕ) (why : Refusal) → judged ≡ Err why
      → DoesUpload did failures server judged n bytes (Err why) server
  not_judged server judged n bytes why is = inl (
    record {
      stored = subst (λ j. IsStoredIf did j server.house.uploads server.files.shelf bytes server.files.shelf) (sym is) refl;
      cache = refl;
      told_is = ap (λ j. (uploaded server.house n bytes j).told) (sym is);
      host_is = ap (λ j. (uploaded server.house n bytes j).host) (sym is);
    },
    keeps_same disk server.house server.house server.journal server.journal refl refl,
  )

  -- the entry that would publish the deploy isn't made, for this reason
  unpublished : (server next : Server S D disk) (mid : Host) (judged : Judged) (n : ℕ) (bytes : List ℕ) (at : SiteName × Digest) (entry : Result (Option ℕ) Refusal) (why : Refusal)
      → judged ≡ Ok at → mid ≡ with_upload server.house bytes
      → IsStored did server.house.uploads server.files.shelf bytes next.files.shelf → next.files.cache ≡ server.files.cache
      → IsTrue (is_published mid at.0 n) → OnErr entry (next.house ≡ mid) → entry ≡ Err why
      → IsUnpublished did server judged n bytes (Change (Publish at.0 n)) next
  unpublished server next mid judged n bytes at entry why allowed known stored cache published left is = record {
    at = at;
    allowed = allowed;
    stored = stored;
    cache = cache;
    known = left_at (next.house ≡ mid) entry why is left ∙ known;
    published = subst (λ h. IsTrue (is_published h at.0 n)) known published;
    missed_is = refl;
  }

  done_so : (server next : Server S D disk) (mid : Host) (judged : Judged) (n : ℕ) (bytes : List ℕ) (at : SiteName × Digest) (entry : Result (Option ℕ) Refusal) (result : Result Uploaded Refusal)
      → judged ≡ Ok at → mid ≡ with_upload server.house bytes
      → IsStored did server.house.uploads server.files.shelf bytes next.files.shelf → next.files.cache ≡ server.files.cache
      → Publishes entry next.house (publishing_if_ready mid at.0 n) → (IsStopped entry → IsTrue (is_published mid at.0 n)) → OnErr entry (next.house ≡ mid)
      → ((entry ≡ Err reason.Device) × Breaks server (Change (Publish at.0 n)) next) ⊎ ((entry ≢ Err reason.Device) × GoesOn server next)
      → told_upload result ≡ told_of entry (λ published. told.Uploaded published at.1) → ((why : Refusal) → entry ≡ Err why → result ≡ Err why)
      → DoesUpload did failures server judged n bytes result next
  done_so server next mid judged n bytes at entry result allowed known stored cache done stops left (inl (is, broken)) says fails =
      inr (inr (Change (Publish at.0 n), unpublished server next mid judged n bytes at entry reason.Device allowed known stored cache (stops (inr is)) left is, inr (fails reason.Device is, broken)))
  done_so server next mid judged n bytes at entry result allowed known stored cache (inl (inl none)) stops left (inr (other, kept)) says fails =
      inr (inr (Change (Publish at.0 n), unpublished server next mid judged n bytes at entry reason.OutOfMemory allowed known stored cache (stops (inl none)) left none, inl (fails reason.OutOfMemory none, kept)))
  done_so server next mid judged n bytes at entry result allowed known stored cache (inl (inr is)) stops left (inr (other, kept)) says fails = absurd (other is)
  done_so server next mid judged n bytes at entry result allowed known stored cache (inr done) stops left (inr (other, kept)) says fails =
      let tell : Option ℕ → Told = λ published. told.Uploaded published at.1 in
      let told_so = published_as (with_upload server.house bytes) at.0 n tell in
      inl (
        record {
          stored = subst (λ j. IsStoredIf did j server.house.uploads server.files.shelf bytes next.files.shelf) (sym allowed) stored;
          cache = cache;
          told_is = says ∙ ap (λ e. told_of e tell) done.0 ∙ ap (λ h. told_of (publishing_if_ready h at.0 n).entry tell) known
              ∙ sym (ap (λ (o : Outcome). o.told) told_so) ∙ ap (λ j. (uploaded server.house n bytes j).told) (sym allowed);
          host_is = done.1 ∙ ap (λ h. (publishing_if_ready h at.0 n).host) known
              ∙ sym (ap (λ (o : Outcome). o.host) told_so) ∙ ap (λ j. (uploaded server.house n bytes j).host) (sym allowed);
        },
        kept,
      )

  pub upload_done : (server next : Server S D disk) (mid : Host) (judged : Judged) (n : ℕ) (bytes : List ℕ) (at : SiteName × Digest) (entry : Result (Option ℕ) Refusal) (result : Result Uploaded Refusal)
      → judged ≡ Ok at → mid ≡ with_upload server.house bytes
      → IsStored did server.house.uploads server.files.shelf bytes next.files.shelf → next.files.cache ≡ server.files.cache
      → Publishes entry next.house (publishing_if_ready mid at.0 n) → (IsStopped entry → IsTrue (is_published mid at.0 n)) → OnErr entry (next.house ≡ mid)
      → IsJournaled disk (Change (Publish at.0 n)) entry mid server.journal next.house next.journal
      → told_upload result ≡ told_of entry (λ published. told.Uploaded published at.1) → ((why : Refusal) → entry ≡ Err why → result ≡ Err why)
      → DoesUpload did failures server judged n bytes result next
  upload_done server next mid judged n bytes at entry result allowed known stored cache done stops left journaled says fails =
      let from : KeepsUp disk server.house server.journal mid server.journal = keeps_entries disk server.house mid server.journal server.journal (ap (λ (h : Host). h.entries) known) refl in
      let same = journaled_then disk (Change (Publish at.0 n)) entry server.house mid next.house server.journal server.journal next.journal from journaled in
      done_so server next mid judged n bytes at entry result allowed known stored cache done stops left
      (journaled_as disk (Change (Publish at.0 n)) entry server.house next.house server.journal next.journal same) says fails
