-- A body is told by its length alone only to HEAD.
use Rattle.std.proofs.Common.{◌≡◌, inl, inr, ℕ, List, [], ◌∷◌, Bool, true, false, Option, Some, None, Result, Ok, Err, refl, sym, ap, ◌∙◌}
use Rattle.std.specs.declared.alloc.AllocError.{AllocError}
use Rattle.host_names.specs.declared.digests.Digest.{Digest}
use Rattle.host_names.specs.declared.names.SiteName.{SiteName}
use Rattle.site_state.specs.Files.{Paths}
use Rattle.site_state.specs.States.{draft_at, kept_at}
use Rattle.site_state.specs.declared.values.Draft.{Draft}
use Rattle.site_change.specs.declared.commands.Command.{Command}
use Rattle.site_change.specs.declared.commands.Command.TheVariants as command
use Rattle.site_change.specs.declared.refusals.ChangeRefusal.TheVariants.{NoSuchDeploy}
use Rattle.change_log.specs.Logs.{entry_at}
use Rattle.range_reply.specs.declared.boundaries.Boundary.{Boundary}
use Rattle.range_spec.specs.declared.selection.Choice.{Choice}
use Rattle.range_spec.specs.declared.selection.Choice.TheVariants.{Whole, One, Many, None416}
use Rattle.http_wire.specs.Requests.{RequestParts}
use Rattle.host_api.specs.Types.{type_of}
use Rattle.host_api.specs.declared.bodies.Ask.{Ask}
use Rattle.host_api.specs.declared.bodies.Ask.TheVariants as ask
use Rattle.host_api.specs.declared.refusals.Refusal.{Refusal}
use Rattle.host_api.specs.declared.refusals.Refusal.TheVariants as reason
use Rattle.host_api.specs.declared.texts.DeployState.TheVariants as state
use Rattle.host_api.specs.declared.texts.Told.{Told}
use Rattle.host_api.specs.declared.texts.Told.TheVariants as told
use Rattle.host_replies.specs.Replies.{Answer, Tells, is_head}
use Rattle.host_replies.specs.SentFiles.{sent_as}
use Rattle.host_answers.specs.Answers.{AnswersBy, CarriesOut, ChangesBy, DoesBy, FollowsBy, InSite, LacksBy, PublishesBy, ShowsBy, told_entry, told_open, told_publishing, told_upload}
use Rattle.host_answers.specs.ChangeLists.{shown_lines}
use Rattle.host_answers.specs.Asking.{asked_for}
use Rattle.host_answers.specs.Deploys.{Opening, opened_by, site_of_deploy}
use Rattle.host_answers.specs.Houses.{Calls, Failed, Gave}
use Rattle.host_answers.specs.Reads.{GivesBy, ReadsBy, SendsBy}
use Rattle.host_answers.specs.declared.stops.Stop.{Stop}
use Rattle.host_answers.proofs.Reading.{Sends}

module _ (answer : Answer) (withheld : answer.withheld ≡ true) where
  -- not where it is an answer with its body
  pub whole : (other : Answer) → answer ≡ other → other.withheld ≡ false → ⊥
  whole other is not = cc (sym (ap (λ (a : Answer). a.withheld) is ∙ not) ∙ withheld)

  pub tells : (told : Told) → Tells told answer → ⊥
  tells told (inl is) = whole _ is refl
  tells told (inr (is, takes)) = whole _ is refl

  sent_whole : (content_type file : List ℕ) (plan : Choice) (boundary : Option Boundary) (bytes : List ℕ) → answer ≡ sent_as content_type file plan boundary bytes → ⊥
  sent_whole content_type file Whole boundary bytes is = whole _ is refl
  sent_whole content_type file (One first last) boundary bytes is = whole _ is refl
  sent_whole content_type file (Many intervals) boundary bytes is = whole _ is refl
  sent_whole content_type file None416 boundary bytes is = whole _ is refl

  -- ---- a read

  module _ {H : Type 0} (gave : Gave H) (failed : Failed H) (house next : H) where
    sends : (path file : List ℕ) (plan : Choice) → Sends gave failed house next path file plan answer → ⊥
    sends path file plan (inl (body, read, is)) = sent_whole (type_of path) file body.plan body.boundary body.bytes is
    sends path file plan (inr (inl (why, read, is))) = whole _ is refl
    sends path file plan (inr (inr (is, same))) = whole _ is refl

    sends_by : (path file : List ℕ) (plan : Choice) → SendsBy gave failed house path file plan answer next → ⊥
    sends_by path file Whole is = sends path file Whole is
    sends_by path file (One first last) is = sends path file (One first last) is
    sends_by path file (Many intervals) is = sends path file (Many intervals) is
    sends_by path file None416 (is, same) = whole _ is refl

    gives : (by_head : Bool) (parts : RequestParts) (path file : List ℕ) → GivesBy gave failed by_head house parts path file answer next → by_head ≡ true
    gives true parts path file is = refl
    gives false parts path file (range, asks, is) = absurd (sends_by path file _ is)

    reads : (parts : RequestParts) (path : List ℕ) (found : Result (List ℕ) Refusal) → ReadsBy gave failed house parts path found answer next → is_head parts ≡ true
    reads parts path (Err why) (is, same) = absurd (whole _ is refl)
    reads parts path (Ok file) is = gives (is_head parts) parts path file is

  -- ---- what else is done

  module _ {H : Type 0} (calls : Calls H) (next : H) where
    publishes : (house : H) (site : SiteName) (id : ℕ) (auto : Bool) (required : List Digest) → PublishesBy calls house site id auto required answer next → ⊥
    publishes house site id true [] (done, commits, is) = tells (told_publishing id done) is
    publishes house site id true (digest ∷ required) (is, same) = tells (told.Opened id None (digest ∷ required)) is
    publishes house site id false [] (is, same) = tells (told.Opened id None []) is
    publishes house site id false (digest ∷ required) (is, same) = tells (told.Opened id None (digest ∷ required)) is

    lacks : (house : H) (opening : Opening) (id : ℕ) (required : Result (List Digest) AllocError) → LacksBy calls house opening id required answer next → ⊥
    lacks house opening id (Err why) (is, same) = tells (told.Refused reason.OutOfMemory) is
    lacks house opening id (Ok required) is = publishes house opening.site id opening.auto required is

    follows : (house : H) (opening : Option Opening) (done : Result ℕ Stop) → FollowsBy calls house opening done answer next → ⊥
    follows house (Some opening) (Ok id) (required, misses, is) = lacks house opening id required is
    follows house (Some opening) (Err why) (is, same) = tells (told_entry (Err why)) is
    follows house None (Ok id) (is, same) = tells (told_entry (Ok id)) is
    follows house None (Err why) (is, same) = tells (told_entry (Err why)) is

    changes : (house : H) (command : Command) → ChangesBy calls house command answer next → ⊥
    changes house command (done, mid, commits, is) = follows mid (opened_by command) done is

    shows : (house : H) (site : SiteName) (n : ℕ) (draft : Option Draft) (tree : Option (Paths (List ℕ))) → ShowsBy calls house site n draft tree answer next → ⊥
    shows house site n (Some draft) tree (required, misses, only) = tells (told_open n site required) only.0
    shows house site n None (Some tree) (is, same) = tells (told.Deploy n site state.Kept) is
    shows house site n None None (is, same) = tells (told.Refused (reason.Change NoSuchDeploy)) is

    in_site : (house : H) (site : Option SiteName) (does : SiteName → Answer → H → Type 0) → ((owner : SiteName) → does owner answer next → ⊥)
        → InSite calls house site does answer next → ⊥
    in_site house None does not (is, same) = tells (told.Refused (reason.Change NoSuchDeploy)) is
    in_site house (Some site) does not is = not site is

  module _ {H : Type 0} (calls : Calls H) (gave : Gave H) (failed : Failed H) (parts : RequestParts) (body : List ℕ) (next : H) where
    pub does : (house : H) (asked : Ask) → DoesBy calls gave failed house parts body asked answer next → is_head parts ≡ true
    does house (ask.Read site version path) is = reads gave failed house next parts path _ is
    does house (ask.Command command) is = absurd (changes calls next house command is)
    does house (ask.Undo site change) (done, undoes, is) = absurd (tells (told_entry done) is)
    does house (ask.Changes site) (is, same) = absurd (tells (told.Changes (shown_lines (calls.seen house).entries site)) is)
    does house (ask.Deploy n) is =
        let cells = (calls.seen house).state in
        absurd (in_site calls next house (site_of_deploy (entry_at (calls.seen house).entries n)) _ (λ site. shows calls next house site n (draft_at cells site n) (kept_at cells site n)) is)
    does house (ask.RemoveDeploy n) is =
        absurd (in_site calls next house (site_of_deploy (entry_at (calls.seen house).entries n)) _ (λ site. changes calls next house (command.RemoveDeploy site n)) is)
    does house (ask.Cancel n) is =
        absurd (in_site calls next house (site_of_deploy (entry_at (calls.seen house).entries n)) _ (λ site. changes calls next house (command.Cancel site n)) is)
    does house (ask.Upload n path) is =
        absurd (in_site calls next house (site_of_deploy (entry_at (calls.seen house).entries n)) _ (λ site uploads. tells (told_upload uploads.0) uploads.2) is)

    carries_out : (house : H) (asking : Result Ask Refusal) → CarriesOut calls gave failed house parts body asking answer next → is_head parts ≡ true
    carries_out house (Err why) (is, same) = absurd (tells (told.Refused why) is)
    carries_out house (Ok asked) (inl (mid, looks, is)) = does mid asked is
    carries_out house (Ok asked) (inr (why, looks, is)) = absurd (whole _ is refl)

pub withheld_to_head : {H : Type 0} (calls : Calls H) (gave : Gave H) (failed : Failed H) (old : H) (parts : RequestParts) (body : List ℕ) (answer : Answer) (new : H)
    → AnswersBy calls gave failed old parts body answer new → answer.withheld ≡ true → is_head parts ≡ true
withheld_to_head calls gave failed old parts body answer new (inl is) withheld = carries_out answer withheld calls gave failed parts body new old (asked_for parts body) is
withheld_to_head calls gave failed old parts body answer new (inr (takes, only)) withheld = absurd (tells answer withheld (told.Refused reason.OutOfMemory) only.0)
