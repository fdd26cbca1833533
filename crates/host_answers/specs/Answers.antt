-- What a request is answered by calls of a house: one branch for each thing that it may ask for (`DoesBy`).
--
-- `Tells told answer` is: that is told, or there is no memory for the text that tells it, where this takes memory.
use Rattle.std.specs.Prelude.{◌≡◌, ◌⊎◌, ℕ, List, [], Bool, true, Option, Some, None, Result, Ok, Err, IsTrue}
use Rattle.std.specs.declared.alloc.AllocError.{AllocError}
use Rattle.host_names.specs.declared.digests.Digest.{Digest}
use Rattle.host_names.specs.declared.names.SiteName.{SiteName}
use Rattle.site_state.specs.Files.{Paths}
use Rattle.site_state.specs.States.{draft_at, kept_at}
use Rattle.site_state.specs.declared.values.Draft.{Draft}
use Rattle.site_change.specs.declared.commands.Command.{Command}
use Rattle.site_change.specs.declared.commands.Command.TheVariants as command
use Rattle.site_change.specs.declared.refusals.ChangeRefusal.TheVariants.{NoSuchDeploy}
use Rattle.change_log.specs.Logs.{entry_at}
use Rattle.http_wire.specs.Requests.{RequestParts}
use Rattle.host_api.specs.declared.bodies.Ask.{Ask}
use Rattle.host_api.specs.declared.bodies.Ask.TheVariants as ask
use Rattle.host_api.specs.declared.refusals.Refusal.{Refusal}
use Rattle.host_api.specs.declared.refusals.Refusal.TheVariants as reason
use Rattle.host_api.specs.declared.texts.DeployState.TheVariants as state
use Rattle.host_api.specs.declared.texts.Told.{Told}
use Rattle.host_api.specs.declared.texts.Told.TheVariants as told
use Rattle.host_replies.specs.Replies.{Answer, Tells, refused_answer}
use Rattle.host_answers.specs.Asking.{asked_for, asking_takes}
use Rattle.host_answers.specs.ChangeLists.{shown_lines}
use Rattle.host_answers.specs.Deploys.{Opening, opened_by, site_of_deploy}
use Rattle.host_answers.specs.Houses.{Calls, Failed, Gave}
use Rattle.host_answers.specs.Reads.{ReadsBy}
use Rattle.host_replies.specs.Versions.{file_of}
use Rattle.host_answers.specs.declared.stops.Stop.{Stop}
use Rattle.host_answers.specs.declared.stops.Stop.TheVariants as stop
use Rattle.host_answers.specs.declared.uploads.Uploaded.{Uploaded}

-- ---- what is told of a call

-- why no entry is made
abbrev pub told_stop : Stop → Refusal
told_stop stop.Broken = reason.Broken
told_stop (stop.Refused why) = reason.Change why
told_stop stop.OutOfMemory = reason.OutOfMemory
told_stop stop.Device = reason.Device

-- the number of an entry
abbrev pub told_entry : Result ℕ Stop → Told
told_entry (Ok number) = told.Entered number
told_entry (Err why) = told.Refused (told_stop why)

-- that of the entry which publishes a deploy, right after the one of this number opened it
abbrev pub told_publishing : ℕ → Result ℕ Stop → Told
told_publishing id (Ok number) = told.Opened id (Some number) []
told_publishing id (Err why) = told.Refused (told_stop why)

-- what was uploaded
abbrev pub told_upload : Result Uploaded Refusal → Told
told_upload (Ok done) = told.Uploaded done.published done.digest
told_upload (Err why) = told.Refused why

-- what an open deploy lacks
abbrev pub told_open : ℕ → SiteName → Result (List Digest) AllocError → Told
told_open n site (Ok required) = told.Deploy n site (state.Open required)
told_open n site (Err why) = told.Refused reason.OutOfMemory

-- ---- what is done for it

-- that is told, and nothing else is done
abbrev pub OnlyTells : {H : Type 0} → H → Told → Answer → H → Type 0
OnlyTells house told answer next = Tells told answer × (next ≡ house)

module _ {H : Type 0} (calls : Calls H) where
  -- a deploy that was opened by the entry of this number: it is published, where it is to publish itself and lacks
  -- nothing; else it is told what it lacks
  abbrev pub PublishesBy : H → SiteName → (id : ℕ) → (auto : Bool) → (required : List Digest) → Answer → H → Type 0
  PublishesBy house site id true [] answer next =
      (done : Result ℕ Stop) × calls.commits house (command.Publish site id) done next
      × Tells (told_publishing id done) answer
  PublishesBy house site id auto required answer next = OnlyTells house (told.Opened id None required) answer next

  -- where there is memory to tell what it lacks
  abbrev pub LacksBy : H → Opening → (id : ℕ) → Result (List Digest) AllocError → Answer → H → Type 0
  LacksBy house opening id (Err why) answer next = OnlyTells house (told.Refused reason.OutOfMemory) answer next
  LacksBy house opening id (Ok required) answer next = PublishesBy house opening.site id opening.auto required answer next

  -- after the entry of an opening the deploy is asked what it lacks; after any other the entry is told, or why there is none
  abbrev pub FollowsBy : H → Option Opening → Result ℕ Stop → Answer → H → Type 0
  FollowsBy house (Some opening) (Ok id) answer next =
      (required : Result (List Digest) AllocError) × calls.misses house opening.files required
      × LacksBy house opening id required answer next
  FollowsBy house opening done answer next = OnlyTells house (told_entry done) answer next

  -- a command becomes the next entry, and what follows that is done
  abbrev pub ChangesBy : H → Command → Answer → H → Type 0
  ChangesBy house command answer next =
      (done : Result ℕ Stop) × (mid : H) × calls.commits house command done mid
      × FollowsBy mid (opened_by command) done answer next

  -- the undo of a change becomes the next entry
  abbrev pub UndoesBy : H → SiteName → (change : ℕ) → Answer → H → Type 0
  UndoesBy house site change answer next =
      (done : Result ℕ Stop) × calls.undoes house site change done next × Tells (told_entry done) answer

  -- the bytes are taken as a file of a deploy
  abbrev pub UploadsBy : H → SiteName → (n : ℕ) → (path bytes : List ℕ) → Answer → H → Type 0
  UploadsBy house site n path bytes answer next =
      (done : Result Uploaded Refusal) × calls.uploads house site n path bytes done next
      × Tells (told_upload done) answer

  -- it is told of a deploy that it is open, and what it lacks, or that it is kept, or that it is neither
  abbrev pub ShowsBy : H → SiteName → (n : ℕ) → Option Draft → Option (Paths (List ℕ)) → Answer → H → Type 0
  ShowsBy house site n (Some draft) tree answer next =
      (required : Result (List Digest) AllocError) × calls.misses house draft.files.1 required
      × OnlyTells house (told_open n site required) answer next
  ShowsBy house site n None (Some tree) answer next = OnlyTells house (told.Deploy n site state.Kept) answer next
  ShowsBy house site n None None answer next = OnlyTells house (told.Refused (reason.Change NoSuchDeploy)) answer next

  -- that is done in the site of a deploy; where no entry opened the deploy, it is told that there is none
  abbrev pub InSite : H → Option SiteName → (SiteName → Answer → H → Type 0) → Answer → H → Type 0
  InSite house None does answer next = OnlyTells house (told.Refused (reason.Change NoSuchDeploy)) answer next
  InSite house (Some site) does answer next = does site answer next

  abbrev pub OfDeploy : H → (n : ℕ) → (SiteName → Answer → H → Type 0) → Answer → H → Type 0
  OfDeploy house n does answer next =
      InSite house (site_of_deploy (entry_at (calls.seen house).entries n)) does answer next

module _ {H : Type 0} (calls : Calls H) (gave : Gave H) (failed : Failed H) where
  -- what is done for what is asked for, after a look
  abbrev pub DoesBy : H → RequestParts → (body : List ℕ) → Ask → Answer → H → Type 0
  DoesBy house parts body (ask.Read site version path) answer next =
      ReadsBy gave failed house parts path (file_of (calls.seen house).state site version path) answer next
  DoesBy house parts body (ask.Command command) answer next = ChangesBy calls house command answer next
  DoesBy house parts body (ask.Undo site change) answer next = UndoesBy calls house site change answer next
  DoesBy house parts body (ask.Changes site) answer next =
      OnlyTells house (told.Changes (shown_lines (calls.seen house).entries site)) answer next
  DoesBy house parts body (ask.Deploy n) answer next =
      let cells = (calls.seen house).state in
      OfDeploy calls house n (λ site. ShowsBy calls house site n (draft_at cells site n) (kept_at cells site n)) answer next
  DoesBy house parts body (ask.RemoveDeploy n) answer next =
      OfDeploy calls house n (λ site. ChangesBy calls house (command.RemoveDeploy site n)) answer next
  DoesBy house parts body (ask.Cancel n) answer next =
      OfDeploy calls house n (λ site. ChangesBy calls house (command.Cancel site n)) answer next
  DoesBy house parts body (ask.Upload n path) answer next =
      OfDeploy calls house n (λ site. UploadsBy calls house site n path body) answer next

  -- One look, and what is asked for is done over what it shows; there may be no memory for the look. Where a request
  -- asks for nothing it is told why, and the house doesn't look.
  abbrev pub CarriesOut : H → RequestParts → (body : List ℕ) → Result Ask Refusal → Answer → H → Type 0
  CarriesOut house parts body (Err why) answer next = OnlyTells house (told.Refused why) answer next
  CarriesOut house parts body (Ok asked) answer next =
      ((mid : H) × calls.looks house (Ok tt) mid × DoesBy mid parts body asked answer next)
      ⊎ ((why : AllocError) × calls.looks house (Err why) next × (answer ≡ refused_answer reason.OutOfMemory))

  -- the answer to a request of these parts and this body; there may be no memory to find what it asks for
  abbrev pub AnswersBy : H → RequestParts → (body : List ℕ) → Answer → H → Type 0
  AnswersBy house parts body answer next =
      CarriesOut house parts body (asked_for parts body) answer next
      ⊎ (IsTrue (asking_takes parts body) × OnlyTells house (told.Refused reason.OutOfMemory) answer next)
