-- Answers by what a house keeps of what was seen are answers by all that this stands for.
use Rattle.std.proofs.Common.{◌≡◌, inl, inr, ℕ, List, [], ◌∷◌, Bool, true, false, Option, Some, None, Result, Ok, Err, refl, sym, subst}
use Rattle.std.specs.declared.alloc.AllocError.{AllocError}
use Rattle.host_names.specs.declared.digests.Digest.{Digest}
use Rattle.host_names.specs.declared.names.SiteName.{SiteName}
use Rattle.byte_view.specs.Contents.{Contents}
use Rattle.site_state.specs.Files.{Paths}
use Rattle.site_state.specs.States.{draft_at, kept_at}
use Rattle.site_state.specs.declared.values.Draft.{Draft}
use Rattle.site_change.specs.declared.commands.Command.{Command}
use Rattle.site_change.specs.declared.commands.Command.TheVariants as command
use Rattle.change_log.specs.Logs.{Log, entry_at}
use Rattle.site_change.specs.declared.entries.Entry.{Entry}
use Rattle.site_change.specs.declared.entries.Entry.TheVariants.{Change, Undo}
use Rattle.http_wire.specs.Requests.{RequestParts}
use Rattle.host_api.specs.declared.bodies.Ask.{Ask}
use Rattle.host_api.specs.declared.bodies.Ask.TheVariants as ask
use Rattle.host_api.specs.declared.refusals.Refusal.{Refusal}
use Rattle.host_replies.specs.Replies.{Answer}
use Rattle.host_replies.specs.Versions.{file_of}
use Rattle.host_answers.specs.Answers.{ChangesBy, DoesBy, FollowsBy, InSite, LacksBy, PublishesBy, ShowsBy, UndoesBy, UploadsBy}
use Rattle.host_answers.specs.Asking.{asked_for}
use Rattle.host_answers.specs.Deploys.{Opening, opened_by, site_of_deploy}
use Rattle.host_answers.specs.Houses.{Seen}
use Rattle.host_answers.specs.Reads.{ReadsBy}
use Rattle.host_answers.specs.declared.stops.Stop.{Stop}
use Rattle.host_answers.specs.declared.uploads.Uploaded.{Uploaded}
use Rattle.host_answers.proofs.Seen.{reads_as}
use Rattle.shared_house.specs.Desks.{HouseCall}
use Rattle.shared_house.specs.Entering.{Reason, learnt_of, learnt_of_upload, reason_of_command, reason_of_undo}
use Rattle.shared_house.specs.Seeing.{Seeing}
use Rattle.shared_house.specs.Shared.{CommitsAs, EntersAs, IsSharedAnswer, LacksAs, RespondsAs, TakesAs, calls_over, fails, gives}
use Rattle.shared_house.proofs.FileReplies.{kept_by_read}

-- a log that is later than all that the one saw is later than all that the other saw, and so for files; and each look of the one is a look of the other, and so is
-- what is learnt and found
pub record StandsFor {H K : Type 0} (narrow : Seeing H) (wide : Seeing K) (R : H → K → Type 0) : Type 0 where
  pub is_later : (old : H) (all : K) (log : Log) → R old all → narrow.is_later old log → wide.is_later all log
  pub looks : (old : H) (all : K) (log : Log) (new : H) → R old all → narrow.looks old log new → (after : K) × wide.looks all log after × R new after
  pub learns : (old : H) (all : K) (log : Log) (new : H) → R old all → narrow.learns old log new → (after : K) × wide.learns all log after × R new after
  pub are_all : (old : H) (all : K) (files : Contents) → R old all → narrow.are_all old files → wide.are_all all files
  pub finds : (old : H) (all : K) (files : Contents) (new : H) → R old all → narrow.finds old files new → (after : K) × wide.finds all files after × R new after

module _ {H K : Type 0} (did : HouseCall → Type 0) (narrow : Seeing H) (wide : Seeing K) (R : H → K → Type 0) (by : StandsFor narrow wide R) where
  same : (old new : H) (all : K) → R old all → new ≡ old → R new all
  same old new all r is = subst (λ (h : H). R h all) (sym is) r

  -- ---- entries

  enters : (entry : Entry) (reason : Reason) (old : H) (all : K) (done : Result ℕ Stop) (new : H) → R old all → EntersAs did narrow entry reason old done new
      → (after : K) × EntersAs did wide entry reason all done after × R new after
  enters entry reason old all done new r (log, answer, later, asked, is, tells, learnt) =
      let more = by.learns old all (learnt_of log answer) new r learnt in
      (more.0, (log, answer, by.is_later old all log r later, asked, is, tells, more.1), more.2)

  commits : (old : H) (all : K) (command : Command) (done : Result ℕ Stop) (new : H) → R old all → CommitsAs did narrow old command done new
      → (after : K) × CommitsAs did wide all command done after × R new after
  commits old all command done new r (inl is) =
      let more = enters (Change command) (reason_of_command command) old all done new r is in
      (more.0, inl more.1, more.2)
  commits old all command done new r (inr (tells, (number, is))) =
      let more = enters (Change command) (reason_of_command command) old all (Ok number) new r is in
      (more.0, inr (tells, (number, more.1)), more.2)

  takes : (old : H) (all : K) (site : SiteName) (n : ℕ) (path bytes : List ℕ) (done : Result Uploaded Refusal) (new : H) → R old all
      → TakesAs did narrow old site n path bytes done new
      → (after : K) × TakesAs did wide all site n path bytes done after × R new after
  takes old all site n path bytes done new r (first, last, files, answer, mid, later, begins, whole, asked, is, tells, found, learnt) =
      let more = by.finds old all files mid r found in
      let then = by.learns mid more.0 (learnt_of_upload last answer) new more.2 learnt in
      (then.0, (first, last, files, answer, more.0, by.is_later old all first r later, begins, by.are_all old all files r whole, asked, is, tells, more.1, then.1), then.2)

  lacking : (old : H) (all : K) (listed : Paths (Option Digest)) (required : Result (List Digest) AllocError) → R old all → LacksAs did narrow old listed required
      → LacksAs did wide all listed required
  lacking old all listed required r (files, digested, whole, asked, is) = (files, digested, by.are_all old all files r whole, asked, is)

  -- ---- what is done

  module _ (seen : Seen) (answer : Answer) where
    publishes : (old : H) (all : K) (site : SiteName) (id : ℕ) (auto : Bool) (required : List Digest) (new : H) → R old all
        → PublishesBy (calls_over did narrow seen) old site id auto required answer new
        → (after : K) × PublishesBy (calls_over did wide seen) all site id auto required answer after × R new after
    publishes old all site id true [] new r (done, is_committed, tells) =
        let more = commits old all (command.Publish site id) done new r is_committed in
        (more.0, (done, more.1, tells), more.2)
    publishes old all site id true (digest ∷ required) new r (tells, is) = (all, (tells, refl), same old new all r is)
    publishes old all site id false [] new r (tells, is) = (all, (tells, refl), same old new all r is)
    publishes old all site id false (digest ∷ required) new r (tells, is) = (all, (tells, refl), same old new all r is)

    lacks : (old : H) (all : K) (opening : Opening) (id : ℕ) (required : Result (List Digest) AllocError) (new : H) → R old all
        → LacksBy (calls_over did narrow seen) old opening id required answer new
        → (after : K) × LacksBy (calls_over did wide seen) all opening id required answer after × R new after
    lacks old all opening id (Err why) new r (tells, is) = (all, (tells, refl), same old new all r is)
    lacks old all opening id (Ok required) new r is = publishes old all opening.site id opening.auto required new r is

    follows : (old : H) (all : K) (opening : Option Opening) (done : Result ℕ Stop) (new : H) → R old all → FollowsBy (calls_over did narrow seen) old opening done answer new
        → (after : K) × FollowsBy (calls_over did wide seen) all opening done answer after × R new after
    follows old all (Some opening) (Ok id) new r (required, misses, is) =
        let more = lacks old all opening id required new r is in
        (more.0, (required, lacking old all opening.files required r misses, more.1), more.2)
    follows old all (Some opening) (Err why) new r (tells, is) = (all, (tells, refl), same old new all r is)
    follows old all None (Ok id) new r (tells, is) = (all, (tells, refl), same old new all r is)
    follows old all None (Err why) new r (tells, is) = (all, (tells, refl), same old new all r is)

    changes : (old : H) (all : K) (command : Command) (new : H) → R old all → ChangesBy (calls_over did narrow seen) old command answer new
        → (after : K) × ChangesBy (calls_over did wide seen) all command answer after × R new after
    changes old all command new r (done, mid, is_committed, is) =
        let first = commits old all command done mid r is_committed in
        let more = follows mid first.0 (opened_by command) done new first.2 is in
        (more.0, (done, first.0, first.1, more.1), more.2)

    undoes : (old : H) (all : K) (site : SiteName) (k : ℕ) (new : H) → R old all → UndoesBy (calls_over did narrow seen) old site k answer new
        → (after : K) × UndoesBy (calls_over did wide seen) all site k answer after × R new after
    undoes old all site k new r (done, is, tells) =
        let more = enters (Undo site k) (reason_of_undo site k) old all done new r is in
        (more.0, (done, more.1, tells), more.2)

    uploads : (old : H) (all : K) (site : SiteName) (n : ℕ) (path bytes : List ℕ) (new : H) → R old all → UploadsBy (calls_over did narrow seen) old site n path bytes answer new
        → (after : K) × UploadsBy (calls_over did wide seen) all site n path bytes answer after × R new after
    uploads old all site n path bytes new r (done, is, tells) =
        let more = takes old all site n path bytes done new r is in
        (more.0, (done, more.1, tells), more.2)

    shows : (old : H) (all : K) (site : SiteName) (n : ℕ) (draft : Option Draft) (tree : Option (Paths (List ℕ))) (new : H) → R old all
        → ShowsBy (calls_over did narrow seen) old site n draft tree answer new
        → (after : K) × ShowsBy (calls_over did wide seen) all site n draft tree answer after × R new after
    shows old all site n (Some draft) tree new r (required, misses, (tells, is)) =
        (all, (required, lacking old all draft.files.1 required r misses, (tells, refl)), same old new all r is)
    shows old all site n None (Some tree) new r (tells, is) = (all, (tells, refl), same old new all r is)
    shows old all site n None None new r (tells, is) = (all, (tells, refl), same old new all r is)

    in_site : (old : H) (all : K) (site : Option SiteName) (new : H) (does : SiteName → Answer → H → Type 0) (does_all : SiteName → Answer → K → Type 0) → R old all
        → ((owner : SiteName) → does owner answer new → (after : K) × does_all owner answer after × R new after)
        → InSite (calls_over did narrow seen) old site does answer new → (after : K) × InSite (calls_over did wide seen) all site does_all answer after × R new after
    in_site old all None new does does_all r each (tells, is) = (all, (tells, refl), same old new all r is)
    in_site old all (Some site) new does does_all r each is = each site is

    reads : (old : H) (all : K) (parts : RequestParts) (path : List ℕ) (found : Result (List ℕ) Refusal) (new : H) → R old all
        → ReadsBy (gives did narrow) (fails did narrow) old parts path found answer new
        → (after : K) × ReadsBy (gives did wide) (fails did wide) all parts path found answer after × R new after
    reads old all parts path found new r is = (
      all,
      reads_as (λ (h : H). all) (gives did narrow) (fails did narrow) (gives did wide) (fails did wide)
          (record { gave_is = λ before hold next same. refl; failed_is = λ before file first last why next same. (same.0, refl) }) old parts path found answer new is,
      same old new all r (kept_by_read did narrow old new parts path found answer is),
    )

    does : (parts : RequestParts) (body : List ℕ) (old : H) (all : K) (asked : Ask) (new : H) → R old all
        → DoesBy (calls_over did narrow seen) (gives did narrow) (fails did narrow) old parts body asked answer new
        → (after : K) × DoesBy (calls_over did wide seen) (gives did wide) (fails did wide) all parts body asked answer after × R new after
    does parts body old all (ask.Read site version path) new r is = reads old all parts path (file_of seen.state site version path) new r is
    does parts body old all (ask.Command command) new r is = changes old all command new r is
    does parts body old all (ask.Undo site k) new r is = undoes old all site k new r is
    does parts body old all (ask.Changes site) new r (tells, is) = (all, (tells, refl), same old new all r is)
    does parts body old all (ask.Deploy n) new r is =
        in_site old all (site_of_deploy (entry_at seen.entries n)) new
        (λ site. ShowsBy (calls_over did narrow seen) old site n (draft_at seen.state site n) (kept_at seen.state site n))
        (λ site. ShowsBy (calls_over did wide seen) all site n (draft_at seen.state site n) (kept_at seen.state site n)) r
        (λ site. shows old all site n (draft_at seen.state site n) (kept_at seen.state site n) new r) is
    does parts body old all (ask.RemoveDeploy n) new r is =
        in_site old all (site_of_deploy (entry_at seen.entries n)) new (λ site. ChangesBy (calls_over did narrow seen) old (command.RemoveDeploy site n))
        (λ site. ChangesBy (calls_over did wide seen) all (command.RemoveDeploy site n)) r (λ site. changes old all (command.RemoveDeploy site n) new r) is
    does parts body old all (ask.Cancel n) new r is =
        in_site old all (site_of_deploy (entry_at seen.entries n)) new (λ site. ChangesBy (calls_over did narrow seen) old (command.Cancel site n))
        (λ site. ChangesBy (calls_over did wide seen) all (command.Cancel site n)) r (λ site. changes old all (command.Cancel site n) new r) is
    does parts body old all (ask.Upload n path) new r is =
        in_site old all (site_of_deploy (entry_at seen.entries n)) new (λ site. UploadsBy (calls_over did narrow seen) old site n path body)
        (λ site. UploadsBy (calls_over did wide seen) all site n path body) r (λ site. uploads old all site n path body new r) is

  -- ---- answers

  responds : (old : H) (all : K) (parts : RequestParts) (body : List ℕ) (asking : Result Ask Refusal) (answer : Answer) (new : H) → R old all
      → RespondsAs did narrow old parts body asking answer new → (after : K) × RespondsAs did wide all parts body asking answer after × R new after
  responds old all parts body (Err why) answer new r (tells, is) = (all, (tells, refl), same old new all r is)
  responds old all parts body (Ok asked) answer new r (inl (seen, mid, looks, run, is)) =
      let first = by.looks old all seen.entries mid r looks in
      let more = does seen answer parts body mid first.0 asked new first.2 is in
      (more.0, inl (seen, first.0, first.1, run, more.1), more.2)
  responds old all parts body (Ok asked) answer new r (inr (told, is)) = (all, inr (told, refl), same old new all r is)

  pub answers : (old : H) (all : K) (parts : RequestParts) (body : List ℕ) (answer : Answer) (new : H) → R old all
      → IsSharedAnswer did narrow old parts body answer new → (after : K) × IsSharedAnswer did wide all parts body answer after × R new after
  answers old all parts body answer new r (inl is) =
      let more = responds old all parts body (asked_for parts body) answer new r is in
      (more.0, inl more.1, more.2)
  answers old all parts body answer new r (inr (takes_memory, (tells, is))) = (all, inr (takes_memory, (tells, refl)), same old new all r is)
